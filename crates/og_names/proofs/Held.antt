-- What a table holds, by the bytes of its names.
use Rattle.std.proofs.Common.{◌≡◌, ◌∙◌, ℕ, suc, Bool, cond, false, List, [], ◌∷◌, ◌++◌, refl, ap}
use Rattle.std.specs.Prelude.{String, Option, Some, None, is_some, ◌+◌, not, length, nat_lt}
use Rattle.std.specs.List.{position, prefix_len}
use Rattle.std.specs.Map as entries
use Rattle.std.specs.String.{string_bytes, string_eq}
use Rattle.std.proofs.lemmas.List.{map-append}
use Rattle.indexmap.specs.IndexMap.{IndexMap, insert_entry}
use Rattle.indexmap.proofs.CallerLemmas.{insert_entry-new}
use Rattle.og_names.specs.Names.{named, same_name, lookup, has_name, place}

-- what is found under the bytes of a name
pub found : {Z A : Type 0} (name : List ℕ) (es : List (String Z × A))
    → entries.lookup (λ key. same_name name (string_bytes key)) es ≡ lookup name (named es)
found name [] = refl
found name (e ∷ es) = ap (cond (same_name name (string_bytes e.0)) (Some e.1)) (found name es)

none_there : {A : Type 0} (o : Option A) → is_some o ≡ false → o ≡ None
none_there None missing = refl
none_there (Some a) missing = absurd (cc)

-- a name that isn't there goes last
pub added : {Z A S : Type 0} (m : IndexMap (String Z) A S) (key : String Z) (value : A)
    → has_name (string_bytes key) (named m.entries) ≡ false
    → named (insert_entry string_eq m.entries key value) ≡ named m.entries ++ (string_bytes key, value) ∷ []
added m key value missing =
    ap named (insert_entry-new string_eq m key value
    (found (string_bytes key) m.entries ∙ none_there (lookup (string_bytes key) (named m.entries)) missing))
    ∙ map-append (λ entry. (string_bytes entry.0, entry.1)) m.entries ((key, value) ∷ [])

prefix_named : {Z A : Type 0} (test : List ℕ → Bool) (es : List (String Z × A))
    → prefix_len (λ key. not (test (string_bytes key))) (entries.keys_of es)
    ≡ prefix_len (λ name. not (test name)) (entries.keys_of (named es))
prefix_named test [] = refl
prefix_named test (e ∷ es) = ap (λ n. cond (not (test (string_bytes e.0))) (1 + n) 0) (prefix_named test es)

count_named : {Z A : Type 0} (es : List (String Z × A))
    → length (entries.keys_of es) ≡ length (entries.keys_of (named es))
count_named [] = refl
count_named (e ∷ es) = ap suc (count_named es)

-- the place of the bytes of a name
pub placed : {Z A : Type 0} (name : List ℕ) (es : List (String Z × A))
    → position (λ key. same_name name (string_bytes key)) (entries.keys_of es) ≡ place name (named es)
placed name es = λ i. cond
    (nat_lt (prefix_named (same_name name) es i) (count_named es i)) (Some (prefix_named (same_name name) es i)) None
