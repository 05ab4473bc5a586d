-- From the front of the tokens through the first that is too deep to all of them.
use Rattle.std.proofs.Common.{◌≡◌, if◌then◌else◌, ℕ, suc, ◌+◌, ◌-◌, ◌<◌, ◌≤◌, Bool, true, false, List, [], ◌∷◌, length, take, Option, None, Some, Result, Ok, Err, inl, inr, refl, sym, subst, arith}
use Rattle.std.specs.Prelude.{All, nat_eq, IfSome}
use Rattle.std.proofs.lemmas.Bool.{eqb-true, eq-eqb}
use Rattle.std.proofs.lemmas.List.{take-map, take-take, length-take-le, length-map}
use Rattle.std.proofs.lemmas.List.Elements.{All-take}
use Rattle.og_lex.specs.declared.token.Token.{Token}
use Rattle.og_grammar.specs.Lexeme.{Lexeme, lexeme_of, lexemes_of}
use Rattle.og_grammar.specs.declared.fault.Fault.{Fault}
use Rattle.og_grammar.specs.declared.fault.Fault.TheVariants.{Memory, Syntax}
use Rattle.og_grammar.specs.Rule.{Rule, spells}
use Rattle.og_grammar.specs.Reading.{fine}
use Rattle.og_grammar.specs.Levels.{meaning}
use Rattle.og_grammar.specs.Laws.{IsFaultAt}
use Rattle.og_grammar.proofs.EveryDepth.{unlimited, begins}
use Rattle.og_grammar.proofs.Viable.{viable_spelled}
use Rattle.og_grammar.proofs.Verdict.{IsExact-rule}
use Rattle.og_syntax.specs.Deep.{IsDeep, NoneDeep, NoneDeepBefore, FindsDeep}
use Rattle.og_syntax.proofs.Walks.{within}
use Rattle.og_language.specs.Symbols.{symbols}
use Rattle.og_language.specs.Begins.{tables}
use Rattle.og_language.specs.Language.{language}
use Rattle.og_language.specs.laws.Fine.{language_fine}
use Rattle.og_terms.specs.Rooms.{Reads}
use Rattle.og_parse.specs.declared.faults.ParseFault.TheVariants as faults
use Rattle.og_parse.specs.Parsed.{IsAtFault, through}
use Rattle.og_parse.specs.Whole.{whole_of, fault_of}

-- ---- what a reading to the end comes to

long : (text : List ℕ) (tokens : List Token) → length (lexemes_of text tokens) ≡ length tokens
long text tokens = length-map tokens (lexeme_of text)

-- the verdict that the whole reading gives, as a value or a fault
abbrev pub Told : {A : Type 0} → Rule symbols A → List Lexeme → Result A Fault → Type 0
Told rule ts (Ok a) = spells (meaning language) rule ts a
Told rule ts (Err (Syntax k)) = IsFaultAt (meaning language) rule ts k
Told rule ts (Err Memory) = Unit {0}

told_at : {A : Type 0} (rule : Rule symbols A) → fine tables rule ≡ true → (ts : List Lexeme) (count : ℕ) → length ts ≡ count
    → (r : Result A Fault) (rest : List Lexeme) → Reads (suc count) rule ts r rest → Told rule ts (whole_of r rest count)
told_at rule f ts count same (Ok a) [] is =
    rw is at (IsExact-rule language language_fine rule f (suc count) ts (omega (arith, same)))
told_at rule f ts count same (Ok a) (t ∷ rest) is =
    subst (λ n. IsFaultAt (meaning language) rule ts (n - length (t ∷ rest))) same
    (rw is at (IsExact-rule language language_fine rule f (suc count) ts (omega (arith, same))))
told_at rule f ts count same (Err Memory) rest is = tt
told_at rule f ts count same (Err (Syntax left)) rest is =
    subst (λ n. IsFaultAt (meaning language) rule ts (n - left)) same
    (rw is at (IsExact-rule language language_fine rule f (suc count) ts (omega (arith, same))))

pub told : {A : Type 0} (rule : Rule symbols A) → fine tables rule ≡ true → (text : List ℕ) (shown : List Token)
    → (r : Result A Fault) (rest : List Lexeme) → Reads (suc (length shown)) rule (lexemes_of text shown) r rest
    → Told rule (lexemes_of text shown) (whole_of r rest (length shown))
told rule f text shown r rest is = told_at rule f (lexemes_of text shown) (length shown) (long text shown) r rest is

-- ---- the tokens through one

-- a token that is there
pub deep_within : (tokens : List Token) (k : ℕ) → IsDeep tokens k → k < length tokens
deep_within tokens k is = within tokens k _ is

shown_lexemes : (text : List ℕ) (tokens : List Token) (k : ℕ) → lexemes_of text (take (suc k) tokens) ≡ take (suc k) (lexemes_of text tokens)
shown_lexemes text tokens k = sym (take-map (lexeme_of text) (suc k) tokens)

-- ---- where no token is too deep

pub fault_of_all : {A : Type 0} (rule : Rule symbols A) (text : List ℕ) (tokens : List Token) (fault : Fault) → NoneDeep tokens
    → Told rule (lexemes_of text tokens) (Err fault) → IsAtFault rule text tokens (fault_of fault (length tokens) None)
fault_of_all rule text tokens Memory none is = tt
fault_of_all rule text tokens (Syntax k) none is = (is, λ j less deep. none j deep)

-- ---- where one is the first

pub record IsFirst (tokens : List Token) (d : ℕ) : Type 0 where
  pub deep : IsDeep tokens d
  pub first : NoneDeepBefore tokens d

pub deep_spelled : {A : Type 0} (rule : Rule symbols A) (text : List ℕ) (tokens : List Token) (d : ℕ) (a : A) → IsFirst tokens d
    → spells (meaning language) rule (lexemes_of text (take (suc d) tokens)) a → IsAtFault rule text tokens (faults.Deep d)
deep_spelled rule text tokens d a is p =
    (is.deep, is.first, rw (shown_lexemes text tokens d) at (viable_spelled (meaning language) (unlimited language) (begins language language_fine) rule _ a p))

shown_long : (tokens : List Token) (d : ℕ) → IsDeep tokens d → length (take (suc d) tokens) ≡ suc d
shown_long tokens d deep = length-take-le (suc d) tokens (deep_within tokens d deep)

-- at the end of the tokens that are shown
at_their_end : {A : Type 0} (rule : Rule symbols A) (text : List ℕ) (tokens : List Token) (d k : ℕ) → IsFirst tokens d → k ≡ suc d
    → IsFaultAt (meaning language) rule (take (suc d) (lexemes_of text tokens)) k → IsAtFault rule text tokens (faults.Deep d)
at_their_end rule text tokens d k is end p =
    (is.deep, is.first, rw (end, take-take (suc d) (suc d) (lexemes_of text tokens) (omega arith)) at p.0)

-- before their end
inside : {A : Type 0} (rule : Rule symbols A) (text : List ℕ) (tokens : List Token) (d k : ℕ) → IsFirst tokens d
    → length (take (suc d) (lexemes_of text tokens)) ≡ suc d → suc d ≤ length (lexemes_of text tokens) → (k ≡ suc d → ⊥)
    → IsFaultAt (meaning language) rule (take (suc d) (lexemes_of text tokens)) k → IsAtFault rule text tokens (faults.Syntax k)
inside rule text tokens d k is size room other (before, inl (less, refuses)) =
    let least : suc k ≤ suc d = omega (arith, less, size) in (
      (
        rw (take-take k (suc d) (lexemes_of text tokens) (omega (arith, least))) at before,
        inl (omega (arith, least, room), λ q. refuses (rw (sym (take-take (suc k) (suc d) (lexemes_of text tokens) least)) at q)),
      ),
      λ j early deep. is.first j (omega (arith, early, least)) deep,
    )
inside rule text tokens d k is size room other (before, inr (same, unspelled)) = absurd (other (omega (arith, same, size)))

pub fault_of_front : {A : Type 0} (rule : Rule symbols A) (text : List ℕ) (tokens : List Token) (d : ℕ) (fault : Fault) → IsFirst tokens d
    → Told rule (lexemes_of text (take (suc d) tokens)) (Err fault)
    → IsAtFault rule text tokens (fault_of fault (length (take (suc d) tokens)) (Some d))
fault_of_front rule text tokens d Memory is p = tt
fault_of_front rule text tokens d (Syntax k) is p = by_end (nat_eq k (length (take (suc d) tokens))) refl
  where
    shown : IsFaultAt (meaning language) rule (take (suc d) (lexemes_of text tokens)) k
    shown = rw (shown_lexemes text tokens d) at p

    room : suc d ≤ length (lexemes_of text tokens)
    room = omega (arith, long text tokens, deep_within tokens d is.deep)

    by_end : (b : Bool) → nat_eq k (length (take (suc d) tokens)) ≡ b
        → IsAtFault rule text tokens (if b then faults.Deep d else faults.Syntax k)
    by_end true same =
        at_their_end rule text tokens d k is (omega (arith, eqb-true k (length (take (suc d) tokens)) same, shown_long tokens d is.deep)) shown
    by_end false other =
        inside rule text tokens d k is (length-take-le (suc d) (lexemes_of text tokens) room) room
        (λ end. let yes = eq-eqb k (length (take (suc d) tokens)) (omega (arith, end, shown_long tokens d is.deep)) in cc) shown

-- ---- by what was found of deep tokens

pub found_within : (tokens : List Token) (deep : Option ℕ) → FindsDeep tokens deep → IfSome deep (λ k. k < length tokens)
found_within tokens None none = tt
found_within tokens (Some k) found = deep_within tokens k found.0

pub tokens_shown : (P : Token → Type 0) (tokens : List Token) (deep : Option ℕ) → All P tokens → All P (through deep tokens)
tokens_shown P tokens None all = all
tokens_shown P tokens (Some k) all = All-take P (suc k) tokens all

pub fault_told : {A : Type 0} (rule : Rule symbols A) (text : List ℕ) (tokens : List Token) (deep : Option ℕ) (fault : Fault) → FindsDeep tokens deep
    → Told rule (lexemes_of text (through deep tokens)) (Err fault)
    → IsAtFault rule text tokens (fault_of fault (length (through deep tokens)) deep)
fault_told rule text tokens None fault found is = fault_of_all rule text tokens fault found is
fault_told rule text tokens (Some d) fault found is =
    fault_of_front rule text tokens d fault (record { deep = found.0; first = found.1 }) is

-- ---- by the steps of a reader of a whole text

pub told_by : {A : Type 0} (rule : Rule symbols A) → fine tables rule ≡ true → (text : List ℕ) (tokens : List Token) (deep : Option ℕ)
    (shown : List Token) (ts : List Lexeme) (r : Result A Fault) (rest : List Lexeme) (w : Result A Fault)
    → shown ≡ through deep tokens → ts ≡ lexemes_of text shown → Reads (length shown + 1) rule ts r rest
    → w ≡ whole_of r rest (length shown) → Told rule (lexemes_of text (through deep tokens)) w
told_by rule led text tokens deep shown ts r rest w cut same reads is =
    let next : length shown + 1 ≡ suc (length shown) = omega arith in
    let more : Reads (suc (length shown)) rule ts r rest = subst (λ n. Reads n rule ts r rest) next reads in
    subst (λ s. Told rule (lexemes_of text s) w) cut
    (subst (Told rule (lexemes_of text shown)) (sym is)
    (told rule led text shown r rest (subst (λ l. Reads (suc (length shown)) rule l r rest) same more)))
