-- What each of several workers did.
use Rattle.std.proofs.Common.{◌≡◌, Bool, true, false, true≢false, ℕ, ◌+◌, length, List, [], ◌∷◌, ◌++◌, map, flat_map, take, refl, sym, ap}
use Rattle.std.proofs.Common.{subst, ◌∙◌, if◌then◌else◌}
use Rattle.std.specs.Prelude.{All, None, Some, slice_get}
use Rattle.std.specs.List.{range_with_len}
use Rattle.std.specs.List.Sorted.{IsPermutation}
use Rattle.std.specs.declared.cmp.Ordering.{Ordering}
use Rattle.std.proofs.lemmas.List.{length-map, map-append, take_more}
use Rattle.std.proofs.lemmas.List.Elements.{All-head, All-tail, All-nil, All-cons, All-push, All-same}
use Rattle.std.proofs.lemmas.Option.{get_or_from_slice_get, slice_get_within}
use Rattle.mr_base.proofs.Passes.{length-push}
use Rattle.mr_defs.specs.Emission.{Emission}
use Rattle.mr_items.specs.Report.{Work}
use Rattle.mr_jobs.specs.Shares.{AreShares, HaveTaken, IsLawfulRound}

-- one more, of which as much is seen as of the next of a list
pub one_more : {A B W : Type 0} (f : A → W) (g : B → W) (done more : List A) (x : A) (ys : List B) (i : ℕ) (y : B) → slice_get ys i ≡ Some y
    → f x ≡ g y → more ≡ done ++ x ∷ []
    → map f done ≡ map g (take i ys) → map f more ≡ map g (take (i + 1) ys)
one_more f g done more x ys i y at same pushed so_far =
    ap (map f) pushed ∙ map-append f done (x ∷ []) ∙ ap (λ w. map f done ++ w ∷ []) same ∙ ap (λ ws. ws ++ g y ∷ []) so_far
    ∙ sym (map-append g (take i ys) (y ∷ []))
    ∙ ap (map g) (sym (take_more ys i y (slice_get_within ys i y at) ∙ ap (λ z. take i ys ++ z ∷ []) (get_or_from_slice_get ys i y y at)))

module _ {B W : Type 0} (g : B → W) (P : W → Type 0) where
  -- what holds of what is seen of each
  pub each_seen : (ys : List B) (Q : B → Type 0) → ((y : B) → Q y → P (g y)) → All Q ys → All P (map g ys)
  each_seen [] Q step all = All-nil P
  each_seen (y ∷ ys) Q step all = All-cons P (g y) (map g ys) (step y (All-head Q y ys all)) (each_seen ys Q step (All-tail Q y ys all))

module _ {B : Type 0} (tasks : B → List ℕ) (cells : B → ℕ) where
  flat_seen : (ys : List B) → flat_map (λ (w : Work). w.0) (map (λ y. (tasks y, cells y)) ys) ≡ flat_map tasks ys
  flat_seen [] = refl
  flat_seen (y ∷ ys) = ap (λ l. tasks y ++ l) (flat_seen ys)

  -- what the workers have, who took the tasks
  pub lawful : {K V : Type 0} (R : K → K → Ordering) (inside : K → Bool) (emits : ℕ → List (Emission K V)) (workers n : ℕ) (ys : List B)
      (works : List Work) → works ≡ map (λ y. (tasks y, cells y)) ys → length ys ≡ workers
      → IsPermutation (range_with_len 0 n) (flat_map tasks ys) → AreShares R inside emits works
      → HaveTaken R inside workers n emits works
  lawful R inside emits workers n ys works seen count once shares = record {
    count = ap length seen ∙ length-map ys (λ y. (tasks y, cells y)) ∙ count;
    once = subst (IsPermutation (range_with_len 0 n)) (sym (ap (flat_map (λ (w : Work). w.0)) seen ∙ flat_seen ys)) once;
    cells = shares;
  }

module _ {K V : Type 0} (R : K → K → Ordering) (inside : K → Bool) (emits : ℕ → List (Emission K V)) (count n : ℕ) (works : List Work) where
  -- it is told where a report is asked for
  pub told : (asked : Bool) → asked ≡ true → HaveTaken R inside count n emits works
      → IsLawfulRound R inside (if asked then Some count else None) n emits works
  told true is taken = taken
  told false is taken = absurd (true≢false (sym is))

-- what holds of each of a list holds when one more is put last
pub each_pushed : {X : Type 0} (xs ys : List X) (x : X) (P : X → Type 0) → ys ≡ xs ++ x ∷ [] → All P xs → P x → All P ys
each_pushed xs ys x P pushed all p = All-same P ys (xs ++ x ∷ []) pushed (All-push P xs x all p)

pub counted : {X : Type 0} (xs ys : List X) (x : X) (n : ℕ) → ys ≡ xs ++ x ∷ [] → length xs ≡ n → length ys ≡ n + 1
counted xs ys x n pushed count = ap length pushed ∙ length-push xs x ∙ ap (λ k. k + 1) count
