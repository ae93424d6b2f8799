-- The finer parts of a part: one of them has a key of the part, and all together have what the part has.
use Rattle.std.proofs.Common.{◌≡◌, ℕ, ◌+◌, ◌*◌, ◌/◌, ◌%◌, ◌<◌, ◌≤◌, ◌==◌, Bool, true, false, ◌&&◌, ◌||◌, nat_lt, if◌then◌else◌, List, []}
use Rattle.std.proofs.Common.{◌∷◌, ◌++◌, map, flat_map, Option, None, Bor, refl, sym, ap, subst, ◌∙◌, arith}
use Rattle.std.specs.List.{IsDistinct}
use Rattle.std.specs.declared.cmp.Ordering.{Ordering}
use Rattle.std.specs.Ordering.{eq_by_cmp}
use Rattle.std.specs.FinMap.{IsAntisymmetric}
use Rattle.std.specs.Global.{Vec}
use Rattle.std.proofs.Math.Nat.{div-lt_iff_lt-mul, add-mul-mod_self_right, mod-eq_of_lt}
use Rattle.std.proofs.lemmas.Nat.{div-mul-add, div-add-mod'}
use Rattle.std.proofs.lemmas.List.{flat_map_more}
use Rattle.std.proofs.lemmas.Bool.Decides.{nat_tests}
use mathlib.Core.Logic.{dite}
use native.Mathlib.Decide.{ℕ_discrete}
use Rattle.mr_defs.specs.Commutative.{IsCommutative, joined, joined_by}
use Rattle.mr_defs.specs.CommutativeLaws.{joined-none, joined_by-append}
use Rattle.mr_container.specs.Entries.{cell_in, seen_of}
use Rattle.mr_hash.specs.declared.entry.Entry.{Entry}
use Rattle.mr_hash.specs.Joined.{AreJoined}
use Rattle.mr_hash.specs.Pairs.{keys_of, pairs_of}
use Rattle.mr_phase.proofs.Gathering.{joined_cells}

-- a number is that of a finer part of a part where it is the part modulo the number of parts
finer_mod : (part parts nth : ℕ) → part < parts → (part + nth * parts) % parts ≡ part
finer_mod part parts nth h = add-mul-mod_self_right part nth parts ∙ mod-eq_of_lt h

finer_div : (part parts nth : ℕ) → part < parts → (part + nth * parts) / parts ≡ nth
finer_div part parts nth h =
    let turned : part + nth * parts ≡ nth * parts + part = omega arith in ap (λ n. n / parts) turned ∙ div-mul-add nth parts part h

finer_is : (b part parts nth : ℕ) → b % parts ≡ part → b / parts ≡ nth → b ≡ part + nth * parts
finer_is b part parts nth h k =
    let whole = div-add-mod' b parts in
    let same = ap (λ q. q * parts) k in
    omega (arith, whole, same, h)

is_finer : (b part parts nth : ℕ) → part < parts → (b == part + nth * parts) ≡ ((b % parts == part) && (b / parts == nth))
is_finer b part parts nth h = dite (ℕ_discrete b (part + nth * parts))
    (λ same.
    let m : b % parts ≡ part = ap (λ n. n % parts) same ∙ finer_mod part parts nth h in
    let d : b / parts ≡ nth = ap (λ n. n / parts) same ∙ finer_div part parts nth h in
    grind (arith, nat_tests, same, m, d))
    (λ other. both_tests (b % parts) part (b / parts) nth (b == part + nth * parts) (grind (arith, nat_tests, other))
    (λ m d. other (finer_is b part parts nth m d)))
  where
    both_tests : (r part q nth : ℕ) (t : Bool) → t ≡ false → (r ≡ part → q ≡ nth → ⊥) → t ≡ ((r == part) && (q == nth))
    both_tests r part q nth t h apart = grind (arith, nat_tests, h, apart)

-- what so many finer parts have, and the next one
module _ {C : Type 0} {op : C → C → C} (laws : IsCommutative op) where
  one_more : (s l e m : Bool) (w : Option C) → (l ≡ true → e ≡ false) → m ≡ (l || e)
      → joined op (if s && l then w else None) (if s && e then w else None) ≡ (if s && m then w else None)
  one_more false l e m w apart is = refl
  one_more true true e m w apart is =
      ap (λ t. joined op w (if t then w else None)) (apart refl) ∙ joined-none laws w ∙ sym (ap (λ t. if t then w else None) is)
  one_more true false e m w apart is = sym (ap (λ t. if t then w else None) is)

  next : (b part parts nth : ℕ) (w : Option C) → part < parts
      → joined op (if (b % parts == part) && nat_lt (b / parts) nth then w else None) (if b == part + nth * parts then w else None)
      ≡ (if (b % parts == part) && nat_lt (b / parts) (nth + 1) then w else None)
  next b part parts nth w h =
      ap (λ t. joined op (if (b % parts == part) && nat_lt (b / parts) nth then w else None) (if t then w else None))
      (is_finer b part parts nth h)
      ∙ one_more (b % parts == part) (nat_lt (b / parts) nth) (b / parts == nth) (nat_lt (b / parts) (nth + 1)) w
      (λ low. grind (arith, nat_tests, low)) (grind (arith, nat_tests))

  at_last : (b part parts finer : ℕ) (w : Option C) → 1 ≤ parts → b < parts * finer
      → (if (b % parts == part) && nat_lt (b / parts) finer then w else None) ≡ (if b % parts == part then w else None)
  at_last b part parts finer w some below = by (b % parts == part)
    where
      inside : nat_lt (b / parts) finer ≡ true
      inside = let low : b / parts < finer = (div-lt_iff_lt-mul some).1 (omega (arith, below)) in grind (arith, nat_tests, low)

      by : (s : Bool) → (if s && nat_lt (b / parts) finer then w else None) ≡ (if s then w else None)
      by true = ap (λ t. if t then w else None) inside
      by false = refl

keys_are : {K C : Type 0} (es : List (Entry K C)) → map (λ e. e.0) (pairs_of es) ≡ keys_of es
keys_are [] = refl
keys_are (e ∷ es) = ap (λ l. e.key ∷ l) (keys_are es)

module _ {K C : Type 0} (R : K → K → Ordering) (merged : C → C → C) (whole : K → Option C) (finer_of : K → ℕ) (parts part : ℕ) where
  -- what the keys of a part have in the finer parts below this one
  abbrev pub AreJoinedBelow : ℕ → List (Vec (Entry K C)) → Type 0
  AreJoinedBelow nth lists = (k : K) → joined_by merged (cell_in R k) (flat_map (λ list. pairs_of list.items) lists)
      ≡ (if (finer_of k % parts == part) && nat_lt (finer_of k / parts) nth then whole k else None)

module _ {K C : Type 0} (R : K → K → Ordering) (one : IsAntisymmetric R) {merged : C → C → C} (laws : IsCommutative merged)
    (whole : K → Option C) (finer_of : K → ℕ) (parts part : ℕ) where
  abbrev Below : ℕ → List (Vec (Entry K C)) → Type 0
  Below = AreJoinedBelow R merged whole finer_of parts part

  pub joined_more : (nth : ℕ) (lists lists' : List (Vec (Entry K C))) (list : Vec (Entry K C)) (read lent : List (Bor K × Bor C))
      → part < parts → lists' ≡ lists ++ list ∷ [] → lent ≡ read
      → ((k : K) → joined_by merged (cell_in R k) (seen_of read) ≡ (if finer_of k == part + nth * parts then whole k else None))
      → AreJoined R merged lent list.items → Below nth lists → Below (nth + 1) lists'
  joined_more nth lists lists' list read lent h put same has are so_far k =
      ap (λ l. joined_by merged (cell_in R k) (flat_map (λ list. pairs_of list.items) l)) put
      ∙ ap (joined_by merged (cell_in R k)) (sym (flat_map_more (λ list. pairs_of list.items) [] lists list))
      ∙ joined_by-append laws (cell_in R k) (flat_map (λ list. pairs_of list.items) lists) (pairs_of list.items)
      ∙ ap (λ c. joined merged c (joined_by merged (cell_in R k) (pairs_of list.items))) (so_far k)
      ∙ ap (joined merged (if (finer_of k % parts == part) && nat_lt (finer_of k / parts) nth then whole k else None))
      (joined_cells R one merged k (pairs_of list.items) (subst (IsDistinct (eq_by_cmp R)) (sym (keys_are list.items)) are.distinct)
      ∙ are.found k ∙ ap (λ l. joined_by merged (cell_in R k) (seen_of l)) same ∙ has k)
      ∙ next laws (finer_of k) part parts nth (whole k) h

  pub all_joined : (nth finer : ℕ) (lists : List (Vec (Entry K C))) (part_of : K → ℕ) → 1 ≤ parts → nth ≡ finer
      → ((k : K) → finer_of k < parts * finer) → ((k : K) → finer_of k % parts ≡ part_of k) → Below nth lists
      → (k : K) → joined_by merged (cell_in R k) (flat_map (λ list. pairs_of list.items) lists)
      ≡ (if part_of k == part then whole k else None)
  all_joined nth finer lists part_of some last below nest so_far k =
      so_far k ∙ at_last laws (finer_of k) part parts nth (whole k) some (subst (λ n. finer_of k < parts * n) (sym last) (below k))
      ∙ ap (λ a. if a == part then whole k else None) (nest k)
