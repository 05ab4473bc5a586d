-- The report on a small game: the verdict, each agent's total, each deviation with its gain.
use Rattle.std.specs.Prelude.{ℕ, List, [], ◌∷◌, ◌++◌, ◌==◌, if◌then◌else◌, flat_map, length, codes, decimal}
use Rattle.og_small.specs.declared.tree.SmallGame.{SmallGame}
use Rattle.og_small.specs.declared.deviations.Deviation.{Deviation}
use Rattle.og_small.specs.Meaning.{total, deviations, agents}

-- one line of text, with its line feed
abbrev pub line_of : List ℕ → List ℕ
line_of bytes = bytes ++ 10 ∷ []

abbrev pub in_quotes : List ℕ → List ℕ
in_quotes bytes = 34 ∷ (bytes ++ 34 ∷ [])

-- how many deviations there are
unfoldable pub count_line : ℕ → List ℕ
count_line count = line_of (codes "deviations " ++ decimal count)

abbrev pub verdict : ℕ → List ℕ
verdict count = if count == 0 then line_of (codes "equilibrium") else count_line count

unfoldable pub value_line : SmallGame → List (List ℕ) → List ℕ → List ℕ
value_line g choices agent =
    line_of (codes "value " ++ in_quotes agent ++ codes " = " ++ decimal (total g.lines choices agent))

-- who deviates, and where
unfoldable pub decision : Deviation → List ℕ
decision d = codes "decision " ++ decimal d.line ++ codes " " ++ in_quotes d.agent

-- what the deviation gains, and the end of the line
unfoldable pub gain : Deviation → List ℕ
gain d = line_of (codes " gain " ++ decimal d.gain)

unfoldable pub deviation_line : Deviation → List ℕ
deviation_line d = decision d ++ (codes " at () play " ++ (d.action ++ gain d))

abbrev pub report : SmallGame → List (List ℕ) → List ℕ
report g choices =
    verdict (length (deviations g choices))
    ++ flat_map (value_line g choices) (agents g.lines)
    ++ flat_map deviation_line (deviations g choices)
