-- The least key that is unknown is the first one on a walk over ascending keys.
use Rattle.std.proofs.Common.{◌≡◌, ℕ, Bool, true, false, not, cond, List, [], ◌∷◌, filter, Some, None, Option, String, Global, string_bytes}
use Rattle.std.proofs.Common.{nat_cmp, Less, refl, sym, ◌∙◌}
use Rattle.std.specs.Prelude.{if◌then◌else◌}
use Rattle.std.specs.Cmp.Lexicographic.{slice_cmp}
use Rattle.std.specs.FinMap.{slice_cmp-IsAntisymmetric, nat_cmp-IsAntisymmetric}
use Rattle.std.specs.List.{AllByRecursion}
use Rattle.std.specs.List.Sorted.{IsStrictlySortedBy}
use Rattle.std.specs.Map.{keys_of}
use Rattle.std.specs.String.{string_cmp}
use Rattle.std.proofs.lemmas.Cmp.{nat_list_cmp_total}
use Rattle.toml.specs.View.{members_view}
use Rattle.toml.proofs.Views.{Entry}
use Rattle.mr_defs.specs.Commutative.{IsCommutative, joined}
use Rattle.mr_defs.specs.CommutativeLaws.{joined-assoc}
use Rattle.mr_defs.specs.Keyed.{lesser, least}
use Rattle.mr_defs.proofs.Lesser.{lesser_commutative}
use Rattle.mr_jobfile.specs.Keys.{is_known, is_unknown, names_in, least_unknown}

abbrev pub unknown_in : List (String Global) → Option (List ℕ)
unknown_in [] = None
unknown_in (k ∷ ks) = if is_known (string_bytes k) then unknown_in ks else Some (string_bytes k)

commutes : IsCommutative (lesser (slice_cmp nat_cmp))
commutes = lesser_commutative nat_list_cmp_total (slice_cmp-IsAntisymmetric nat_cmp-IsAntisymmetric)

lesser_below : (a b : List ℕ) → slice_cmp nat_cmp a b ≡ Less → lesser (slice_cmp nat_cmp) a b ≡ a
lesser_below a b below = rw (nat_list_cmp_total.antisymm b a, below)

-- joined with a name that is above, if it is unknown
joined_above : (k name : List ℕ) (known : Bool) (rest : List (List ℕ)) → slice_cmp nat_cmp k name ≡ Less
    → joined (lesser (slice_cmp nat_cmp)) (Some k) (least (slice_cmp nat_cmp) rest) ≡ Some k
    → joined (lesser (slice_cmp nat_cmp)) (Some k) (least (slice_cmp nat_cmp) (cond (not known) (name ∷ rest) rest)) ≡ Some k
joined_above k name true rest below others = others
joined_above k name false rest below others =
    sym (joined-assoc commutes (Some k) (Some name) (least (slice_cmp nat_cmp) rest)) ∙ rw (lesser_below k name below) others

all_above : (k : String Global) (es : List Entry) → AllByRecursion (λ y. string_cmp k y ≡ Less) (keys_of es)
    → joined (lesser (slice_cmp nat_cmp)) (Some (string_bytes k))
    (least (slice_cmp nat_cmp) (filter is_unknown (names_in (members_view es)))) ≡ Some (string_bytes k)
all_above k [] above = refl
all_above k (e ∷ es) above =
    joined_above (string_bytes k) (string_bytes e.0) (is_known (string_bytes e.0)) _ above.0 (all_above k es above.1)

here_or_later : (name : List ℕ) (known : Bool) (rest : List (List ℕ)) (later : Option (List ℕ)) → least (slice_cmp nat_cmp) rest ≡ later
    → joined (lesser (slice_cmp nat_cmp)) (Some name) (least (slice_cmp nat_cmp) rest) ≡ Some name
    → least (slice_cmp nat_cmp) (cond (not known) (name ∷ rest) rest) ≡ cond known later (Some name)
here_or_later name true rest later same above = same
here_or_later name false rest later same above = above

pub least_first : (es : List Entry) → IsStrictlySortedBy string_cmp (keys_of es) → least_unknown (members_view es) ≡ unknown_in (keys_of es)
unfolding IsStrictlySortedBy
least_first [] sorted = refl
least_first (e ∷ es) sorted =
    here_or_later (string_bytes e.0) (is_known (string_bytes e.0)) _ _ (least_first es sorted.1) (all_above e.0 es sorted.0)
