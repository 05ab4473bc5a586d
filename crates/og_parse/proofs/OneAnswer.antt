-- The tokens of a text have at most one answer.
use Rattle.std.proofs.Common.{◌≡◌, ◌≢◌, ◌∙◌, ℕ, suc, ◌<◌, ◌≤◌, List, take, drop, ◌++◌, Result, Ok, Err, inl, inr, refl, sym, ap, subst, arith}
use Rattle.std.proofs.lemmas.Bool.{cases_lt}
use Rattle.std.proofs.lemmas.List.{take-take, take-append-drop, length-map}
use Rattle.og_lex.specs.declared.token.Token.{Token}
use Rattle.og_grammar.specs.Lexeme.{Lexeme, lexeme_of, lexemes_of}
use Rattle.og_grammar.specs.Rule.{Rule, viable}
use Rattle.og_grammar.specs.Levels.{meaning}
use Rattle.og_grammar.specs.Laws.{IsFaultAt, IsVerdict}
use Rattle.og_syntax.specs.declared.declarations.Program.{Program}
use Rattle.og_syntax.specs.declared.strategies.StrategyFile.{StrategyFile}
use Rattle.og_language.specs.Symbols.{symbols}
use Rattle.og_language.specs.Language.{language}
use Rattle.og_language.specs.Grammar.{program, strategy}
use Rattle.og_parse.specs.declared.faults.ParseFault.{ParseFault}
use Rattle.og_parse.specs.declared.faults.ParseFault.TheVariants as faults
use Rattle.og_parse.specs.Parsed.{IsParsed, IsAtFault, ParsesProgram, ParsesStrategy}
use Rattle.og_parse.proofs.Fronts.{deep_within}

-- what the grammar's own laws say of a rule
abbrev pub IsDecidedRule : {A : Type 0} → Rule symbols A → Type 0
IsDecidedRule {A} rule =
    (ts : List Lexeme) (one other : Result A ℕ) → IsVerdict (meaning language) rule ts one
    → IsVerdict (meaning language) rule ts other → one ≡ other

abbrev pub HasFrontsRule : {A : Type 0} → Rule symbols A → Type 0
HasFrontsRule rule =
    (front rest : List Lexeme) → viable (meaning language) rule (front ++ rest) → viable (meaning language) rule front

module _ {A : Type 0} (rule : Rule symbols A) (decided : IsDecidedRule rule) (fronts : HasFrontsRule rule)
    (text : List ℕ) (tokens : List Token) where
  -- the fewer tokens of those that may begin what is spelled
  fewer : (least most : ℕ) → least ≤ most → viable (meaning language) rule (take most (lexemes_of text tokens))
      → viable (meaning language) rule (take least (lexemes_of text tokens))
  fewer least most le v =
      let shown = take most (lexemes_of text tokens) in
      subst (viable (meaning language) rule) (take-take least most (lexemes_of text tokens) le)
      (fronts (take least shown) (drop least shown) (subst (viable (meaning language) rule) (sym (take-append-drop least shown)) v))

  parsed_or_fault : (a : A) (fault : ParseFault) → fault ≢ faults.Memory → IsParsed rule text tokens a
      → IsAtFault rule text tokens fault → ⊥
  parsed_or_fault a (faults.Syntax k) some p is =
      let same = decided (lexemes_of text tokens) (Ok a) (Err k) p.0 is.0 in cc
  parsed_or_fault a (faults.Deep k) some p is = p.1 k is.0
  parsed_or_fault a faults.Memory some p is = some refl

  -- the grammar's fault isn't behind the first token that is too deep, and not before it
  syntax_or_deep : (k d : ℕ) → IsAtFault rule text tokens (faults.Syntax k) → IsAtFault rule text tokens (faults.Deep d) → ⊥
  syntax_or_deep k d (at, none) (deep, first, v) = elim (cases_lt d k) [
    | inl less ↦ none d less deep
    | inr past ↦ not_behind at past
  ]
    where
      not_behind : IsFaultAt (meaning language) rule (lexemes_of text tokens) k → k ≤ d → ⊥
      not_behind (before, inl (less, refuses)) past = refuses (fewer (suc k) (suc d) (omega (arith, past)) v)
      not_behind (before, inr (end, unspelled)) past =
          absurd (omega (arith, past, end, deep_within tokens d deep, length-map tokens (lexeme_of text)))

  first_of_two : (k d : ℕ) → IsAtFault rule text tokens (faults.Deep k) → IsAtFault rule text tokens (faults.Deep d) → k < d → ⊥
  first_of_two k d one other less = other.1 k less one.0

  same_deep : (k d : ℕ) → IsAtFault rule text tokens (faults.Deep k) → IsAtFault rule text tokens (faults.Deep d) → k ≡ d
  same_deep k d one other = elim (cases_lt k d) [
    | inl less ↦ absurd (first_of_two k d one other less)
    | inr past ↦ elim (cases_lt d k) [
      | inl less ↦ absurd (first_of_two d k other one less)
      | inr more ↦ omega (arith, past, more)
    ]
  ]

  same_fault : (one other : ParseFault) → one ≢ faults.Memory → other ≢ faults.Memory → IsAtFault rule text tokens one
      → IsAtFault rule text tokens other → one ≡ other
  same_fault (faults.Syntax k) (faults.Syntax d) a b one other =
      let same = decided (lexemes_of text tokens) (Err k) (Err d) one.0 other.0 in
      let here : k ≡ d = cc in
      ap faults.Syntax here
  same_fault (faults.Syntax k) (faults.Deep d) a b one other = absurd (syntax_or_deep k d one other)
  same_fault (faults.Deep k) (faults.Syntax d) a b one other = absurd (syntax_or_deep d k other one)
  same_fault (faults.Deep k) (faults.Deep d) a b one other = ap faults.Deep (same_deep k d one other)
  same_fault faults.Memory other a b one is = absurd (a refl)
  same_fault (faults.Syntax k) faults.Memory a b one is = absurd (b refl)
  same_fault (faults.Deep k) faults.Memory a b one is = absurd (b refl)

  same_value : (a b : A) → IsParsed rule text tokens a → IsParsed rule text tokens b → a ≡ b
  same_value a b one other =
      let same = decided (lexemes_of text tokens) (Ok a) (Ok b) one.0 other.0 in
      cc

some_fault : {A : Type 0} (r : Result A ParseFault) (fault : ParseFault) → r ≡ Err fault → r ≢ Err faults.Memory → fault ≢ faults.Memory
some_fault r fault is some same = some (is ∙ ap Err same)

pub one_program : IsDecidedRule program → HasFrontsRule program → (text : List ℕ) (tokens : List Token)
    (one other : Result Program ParseFault) → ParsesProgram text tokens one → ParsesProgram text tokens other
    → one ≢ Err faults.Memory → other ≢ Err faults.Memory → one ≡ other
one_program decided fronts text tokens (Ok p) (Ok q) (at, is) (other_at, other_is) a b =
    let same = same_value program decided fronts text tokens (p.version, p.decls) (q.version, q.decls) is other_is in
    let here : p.at ≡ q.at = at ∙ sym other_at in
    ap Ok (λ i. record { at = here i; version = (same i).0; decls = (same i).1 })
one_program decided fronts text tokens (Ok p) (Err fault) (at, is) other a b =
    absurd (parsed_or_fault program decided fronts text tokens (p.version, p.decls) fault (some_fault (Err fault) fault refl b) is other)
one_program decided fronts text tokens (Err fault) (Ok q) one (at, is) a b =
    absurd (parsed_or_fault program decided fronts text tokens (q.version, q.decls) fault (some_fault (Err fault) fault refl a) is one)
one_program decided fronts text tokens (Err fault) (Err next) one other a b =
    ap Err (same_fault program decided fronts text tokens fault next (some_fault (Err fault) fault refl a) (some_fault (Err next) next refl b) one other)

pub one_strategy : IsDecidedRule strategy → HasFrontsRule strategy → (text : List ℕ) (tokens : List Token)
    (one other : Result StrategyFile ParseFault) → ParsesStrategy text tokens one → ParsesStrategy text tokens other
    → one ≢ Err faults.Memory → other ≢ Err faults.Memory → one ≡ other
one_strategy decided fronts text tokens (Ok p) (Ok q) (at, is) (other_at, other_is) a b =
    let same = same_value strategy decided fronts text tokens p.sections q.sections is other_is in
    let here : p.at ≡ q.at = at ∙ sym other_at in
    ap Ok (λ i. record { at = here i; sections = same i })
one_strategy decided fronts text tokens (Ok p) (Err fault) (at, is) other a b =
    absurd (parsed_or_fault strategy decided fronts text tokens p.sections fault (some_fault (Err fault) fault refl b) is other)
one_strategy decided fronts text tokens (Err fault) (Ok q) one (at, is) a b =
    absurd (parsed_or_fault strategy decided fronts text tokens q.sections fault (some_fault (Err fault) fault refl a) is one)
one_strategy decided fronts text tokens (Err fault) (Err next) one other a b =
    ap Err (same_fault strategy decided fronts text tokens fault next (some_fault (Err fault) fault refl a) (some_fault (Err next) next refl b) one other)
