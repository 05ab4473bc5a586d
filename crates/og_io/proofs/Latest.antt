-- The last word on a name or a call, over one more word.
use Rattle.std.proofs.Common.{◌≡◌, ◌≢◌, ℕ, ◌+◌, ◌<◌, List, [], ◌∷◌, ◌++◌, take, get_or, length, Option, Some, None, cond, refl, sym, ◌∙◌, ap, eqb, eq-eqb, true, false}
use Rattle.std.proofs.lemmas.Bool.{false_from_ne_true, eqb-true}
use Rattle.std.specs.Prelude.{bytes_eq, ◌==◌, ◌||◌}
use Rattle.std.proofs.Math.Bool.{or-false, or-true}
use Rattle.std.proofs.lemmas.List.Folds.{list_any-append}
use Rattle.std.proofs.lemmas.List.{take_more}
use Rattle.std.proofs.lemmas.Slice.Eq.{bytes_eq-Decides}
use Rattle.og_io.specs.Fakes.{later, bytes_under, fails_after, is_told}

later_again : {A : Type 0} (a b c : Option A) → later (later a b) c ≡ later a (later b c)
later_again (Some x) b c = refl
later_again None b c = refl

none_later : {A : Type 0} (a : Option A) → later a None ≡ later None a
none_later (Some x) = refl
none_later None = refl

bytes_under_added : (files : List (List ℕ × List ℕ)) (file : List ℕ × List ℕ) (name : List ℕ)
    → bytes_under (files ++ file ∷ []) name ≡ later (cond (bytes_eq file.0 name) (Some file.1) None) (bytes_under files name)
bytes_under_added [] file name = sym (none_later _)
bytes_under_added (first ∷ files) file name =
    ap (λ found. later found (cond (bytes_eq first.0 name) (Some first.1) None)) (bytes_under_added files file name)
    ∙ later_again (cond (bytes_eq file.0 name) (Some file.1) None) (bytes_under files name) _

bytes_under_step : (files : List (List ℕ × List ℕ)) (i : ℕ) (d : List ℕ × List ℕ) (name : List ℕ) → i < length files
    → bytes_under (take (i + 1) files) name ≡ later (cond (bytes_eq (get_or files i d).0 name) (Some (get_or files i d).1) None) (bytes_under (take i files) name)
bytes_under_step files i d name within =
    ap (λ front. bytes_under front name) (take_more files i d within) ∙ bytes_under_added (take i files) (get_or files i d) name

pub bytes_under_more : (files : List (List ℕ × List ℕ)) (i : ℕ) (file : List ℕ × List ℕ) (name : List ℕ) → i < length files
    → file ≡ get_or files i file → true ≡ bytes_eq file.0 name → bytes_under (take (i + 1) files) name ≡ Some file.1
bytes_under_more files i file name within is same =
    bytes_under_step files i file name within
    ∙ ap (λ f. later (cond (bytes_eq f.0 name) (Some f.1) None) (bytes_under (take i files) name)) (sym is)
    ∙ ap (λ b. later (cond b (Some file.1) None) (bytes_under (take i files) name)) (sym same)

pub bytes_under_same : (files : List (List ℕ × List ℕ)) (i : ℕ) (file : List ℕ × List ℕ) (name : List ℕ) → i < length files
    → file ≡ get_or files i file → false ≡ bytes_eq file.0 name → bytes_under (take (i + 1) files) name ≡ bytes_under (take i files) name
bytes_under_same files i file name within is differs =
    bytes_under_step files i file name within
    ∙ ap (λ f. later (cond (bytes_eq f.0 name) (Some f.1) None) (bytes_under (take i files) name)) (sym is)
    ∙ ap (λ b. later (cond b (Some file.1) None) (bytes_under (take i files) name)) (sym differs)

-- A file that is added last is what is held under its name, and changes nothing under another.
pub bytes_under_latest : (files : List (List ℕ × List ℕ)) (name bytes : List ℕ) → bytes_under (files ++ (name, bytes) ∷ []) name ≡ Some bytes
bytes_under_latest files name bytes =
    bytes_under_added files (name, bytes) name
    ∙ ap (λ b. later (cond b (Some bytes) None) (bytes_under files name)) ((bytes_eq-Decides name name).1 refl)

pub bytes_under_others : (files : List (List ℕ × List ℕ)) (name bytes other : List ℕ) → other ≢ name → bytes_under (files ++ (name, bytes) ∷ []) other ≡ bytes_under files other
bytes_under_others files name bytes other differs =
    bytes_under_added files (name, bytes) other
    ∙ ap (λ b. later (cond b (Some bytes) None) (bytes_under files other)) (false_from_ne_true _ (λ same. differs (sym ((bytes_eq-Decides name other).0 same))))

fails_after_added : (failing : List (ℕ × ℕ)) (told : ℕ × ℕ) (call : ℕ)
    → fails_after (failing ++ told ∷ []) call ≡ later (cond (eqb told.0 call) (Some told.1) None) (fails_after failing call)
fails_after_added [] told call = sym (none_later _)
fails_after_added (first ∷ failing) told call =
    ap (λ found. later found (cond (eqb first.0 call) (Some first.1) None)) (fails_after_added failing told call)
    ∙ later_again (cond (eqb told.0 call) (Some told.1) None) (fails_after failing call) _

fails_after_step : (failing : List (ℕ × ℕ)) (i : ℕ) (d : ℕ × ℕ) (call : ℕ) → i < length failing
    → fails_after (take (i + 1) failing) call ≡ later (cond (eqb (get_or failing i d).0 call) (Some (get_or failing i d).1) None) (fails_after (take i failing) call)
fails_after_step failing i d call within =
    ap (λ front. fails_after front call) (take_more failing i d within) ∙ fails_after_added (take i failing) (get_or failing i d) call

pub fails_after_more : (failing : List (ℕ × ℕ)) (i : ℕ) (d : ℕ × ℕ) (call : ℕ) → i < length failing
    → (get_or failing i d).0 ≡ call → fails_after (take (i + 1) failing) call ≡ Some (get_or failing i d).1
fails_after_more failing i d call within same =
    fails_after_step failing i d call within
    ∙ ap (λ b. later (cond b (Some (get_or failing i d).1) None) (fails_after (take i failing) call)) (eq-eqb _ _ same)

pub fails_after_same : (failing : List (ℕ × ℕ)) (i : ℕ) (d : ℕ × ℕ) (call : ℕ) → i < length failing
    → ((get_or failing i d).0 ≡ call → ⊥) → fails_after (take (i + 1) failing) call ≡ fails_after (take i failing) call
fails_after_same failing i d call within differs =
    fails_after_step failing i d call within
    ∙ ap (λ b. later (cond b (Some (get_or failing i d).1) None) (fails_after (take i failing) call)) (false_from_ne_true _ (λ yes. differs (eqb-true (get_or failing i d).0 call yes)))

-- What was said last of a put is what counts, and changes nothing for another.
pub fails_after_latest : (failing : List (ℕ × ℕ)) (call after : ℕ) → fails_after (failing ++ (call, after) ∷ []) call ≡ Some after
fails_after_latest failing call after =
    fails_after_added failing (call, after) call
    ∙ ap (λ b. later (cond b (Some after) None) (fails_after failing call)) (eq-eqb call call refl)

pub fails_after_others : (failing : List (ℕ × ℕ)) (call after other : ℕ) → other ≢ call → fails_after (failing ++ (call, after) ∷ []) other ≡ fails_after failing other
fails_after_others failing call after other differs =
    fails_after_added failing (call, after) other
    ∙ ap (λ b. later (cond b (Some after) None) (fails_after failing other)) (false_from_ne_true _ (λ yes. differs (sym (eqb-true call other yes))))

-- A load that was told to fail is told to, and no other is told by that.
pub told_latest : (failing : List ℕ) (call : ℕ) → is_told (failing ++ call ∷ []) call ≡ true
told_latest failing call =
    list_any-append (λ told. told == call) failing (call ∷ [])
    ∙ ap (λ b. is_told failing call || (b || false)) (eq-eqb call call refl)
    ∙ or-true (is_told failing call)

pub told_others : (failing : List ℕ) (call other : ℕ) → other ≢ call → is_told (failing ++ call ∷ []) other ≡ is_told failing other
told_others failing call other differs =
    list_any-append (λ told. told == other) failing (call ∷ [])
    ∙ ap (λ b. is_told failing other || (b || false)) (false_from_ne_true _ (λ yes. differs (sym (eqb-true call other yes))))
    ∙ or-false (is_told failing other)
