-- Where a game stands, what it sees there, and how large it is once its calls are replaced by the games' bodies. Sums stand
-- still at 2^32 - 1, and the product of scales at 2^62.
use Rattle.std.specs.Prelude.{ℕ, ◌*◌, ◌^◌, ◌-◌, max, min, if◌then◌else◌, List, [], ◌∷◌, ◌++◌}
use Rattle.og_native.specs.declared.ports.Ports.{Ports}
use Rattle.og_native.specs.declared.stored.StoredLens.{StoredLens}
use Rattle.og_names.specs.Names.{has_name}
use Rattle.og_typing.specs.Types.{Table}
use Rattle.og_typing.specs.Sizes.{plus}
use Rattle.og_typing.specs.Variables.{Around, around_of}
use Rattle.og_wires.specs.declared.sites.Site as code
use Rattle.og_wires.specs.declared.kind.Level.{Level}
use Rattle.og_wires.specs.declared.kind.Size.{Size}
use Rattle.og_wires.specs.declared.kind.DeclaredGame.{DeclaredGame}

-- ---- what a game sees

-- the ports of blocks, by their names
abbrev pub Blocks : Type 0
Blocks = Table Ports

-- with one block more, if its name isn't there
abbrev pub with_named : List ℕ → Ports → Blocks → Blocks
with_named name ports blocks = if has_name name blocks then blocks else blocks ++ (name, ports) ∷ []

module _ {X Y : Type 0} {F : X → Type 0} {G : Y → Type 0} {f : _} {g : _} where
  abbrev pub with_blocks : Blocks → List (StoredLens X Y F G f g) → Blocks
  with_blocks blocks [] = blocks
  with_blocks blocks (b ∷ more) = with_blocks (with_named b.name b.ports blocks) more

  -- those of a library, whose names differ
  abbrev pub blocks_of : List (StoredLens X Y F G f g) → Blocks
  blocks_of = with_blocks []

-- what is declared before a game and the parameters round it, the games among these, and the library
pub record Site : Type 0 where
  pub around : Around
  pub games : List DeclaredGame
  pub blocks : Blocks

abbrev pub site_of : code.Site → Site
site_of site = record { around = around_of site.around; games = site.games.now; blocks = site.blocks.now }

-- ---- where it stands

-- one deeper
abbrev pub below : Level → Level
below level = record { depth = plus level.depth 1; inside = level.inside }

-- one deeper, inside one branch more
abbrev pub inside : Level → Level
inside level = record { depth = plus level.depth 1; inside = plus level.inside 1 }

-- ---- how large it is

abbrev pub scaled : ℕ → ℕ → ℕ
scaled m n = min (m * n) (2 ^ 62)

-- a game without its parts
abbrev pub alone : Level → Size
alone level = record { deep = level.depth; nested = level.inside; nodes = 1; lines = 0; weight = 0; scale = 1 }

-- with so many more flat lines, and so many more of what they weigh
abbrev pub with_lines : ℕ → ℕ → Size → Size
with_lines lines weight size = record {
  deep = size.deep;
  nested = size.nested;
  nodes = size.nodes;
  lines = plus size.lines lines;
  weight = plus size.weight weight;
  scale = size.scale;
}

-- with one part more
abbrev pub with_part : Size → Size → Size
with_part size part = record {
  deep = max size.deep part.deep;
  nested = max size.nested part.nested;
  nodes = plus size.nodes part.nodes;
  lines = plus size.lines part.lines;
  weight = plus size.weight part.weight;
  scale = scaled size.scale part.scale;
}

-- a body that is walked from depth 1 and inside no branch, in the place of a call
abbrev pub called : Level → Size → Size
called level size = record {
  deep = plus level.depth size.deep - 1;
  nested = plus level.inside size.nested;
  nodes = size.nodes;
  lines = size.lines;
  weight = size.weight;
  scale = size.scale;
}
