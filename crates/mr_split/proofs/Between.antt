-- The parts between cuts, built up one cut after the other.
use Rattle.std.proofs.Common.{◌≡◌, inl, inr, ℕ, ◌+◌, ◌-◌, ◌*◌, ◌/◌, ◌<◌, ◌≤◌, ◌==◌, Bool, true, false, List, [], ◌∷◌, ◌++◌, length, map}
use Rattle.std.proofs.Common.{refl, sym, ◌∙◌, ap, ap₂, subst, arith, eq-eqb, if◌then◌else◌}
use Rattle.std.specs.List.{range_with_len}
use Rattle.std.proofs.lemmas.Bool.{cases_lt, cases_eq, ne_eqb}
use Rattle.std.proofs.lemmas.List.FromFn.{map-range_with_len_more}
use Rattle.std.proofs.lemmas.List.{length-append}
use Rattle.std.proofs.Math.Nat.{div-mul-le_self, mul-le-mul_right}
use Rattle.mr_defs.specs.Tasks.{Stretch, boundary_from, most_tasks, step_of}
use Rattle.mr_split.proofs.Forward.{boundary_from_same}

-- the parts from a place to the next cut, and so on; cuts that coincide have none between them
abbrev pub parts_from : ℕ → List ℕ → List Stretch
parts_from from [] = []
parts_from from (cut ∷ cuts) = if cut == from then parts_from from cuts else (from, cut) ∷ parts_from cut cuts

-- the last cut
abbrev pub end_of : ℕ → List ℕ → ℕ
end_of from [] = from
end_of from (cut ∷ cuts) = end_of cut cuts

end_of-push : (from : ℕ) (cuts : List ℕ) (cut : ℕ) → end_of from (cuts ++ cut ∷ []) ≡ cut
end_of-push from [] cut = refl
end_of-push from (c ∷ cuts) cut = end_of-push c cuts cut

pub parts_same : (from : ℕ) (cuts : List ℕ) (c : ℕ) → (c == from) ≡ true → parts_from from (c ∷ cuts) ≡ parts_from from cuts
parts_same from cuts c e = rw e refl

pub parts_other : (from : ℕ) (cuts : List ℕ) (c : ℕ) → (c == from) ≡ false → parts_from from (c ∷ cuts) ≡ (from, c) ∷ parts_from c cuts
parts_other from cuts c e = rw e refl

-- one cut more, behind the last; and the last once more
parts_from-push : (from : ℕ) (cuts : List ℕ) (cut : ℕ) → end_of from cuts < cut
    → parts_from from (cuts ++ cut ∷ []) ≡ parts_from from cuts ++ (end_of from cuts, cut) ∷ []
parts_from-push from [] cut less = parts_other from [] cut (ne_eqb cut from (λ e. omega (arith, e, less)))
parts_from-push from (c ∷ cuts) cut less = elim (cases_eq c from) [
  | inl same ↦ let e : (c == from) ≡ true = eq-eqb c from same in
      parts_same from (cuts ++ cut ∷ []) c e ∙ parts_from-push from cuts cut (subst (λ p. end_of p cuts < cut) same less)
      ∙ ap₂ (λ (ps : List Stretch) (p : ℕ). ps ++ (p, cut) ∷ []) (sym (parts_same from cuts c e)) (ap (λ p. end_of p cuts) (sym same))
  | inr differ ↦ let e : (c == from) ≡ false = ne_eqb c from differ in
      parts_other from (cuts ++ cut ∷ []) c e ∙ ap (λ ps. (from, c) ∷ ps) (parts_from-push c cuts cut less)
      ∙ ap (λ (ps : List Stretch). ps ++ (end_of c cuts, cut) ∷ []) (sym (parts_other from cuts c e))
]

parts_from-again : (from : ℕ) (cuts : List ℕ) (cut : ℕ) → cut ≡ end_of from cuts → parts_from from (cuts ++ cut ∷ []) ≡ parts_from from cuts
parts_from-again from [] cut same = parts_same from [] cut (eq-eqb cut from same)
parts_from-again from (c ∷ cuts) cut same = elim (cases_eq c from) [
  | inl here ↦ let e : (c == from) ≡ true = eq-eqb c from here in
      parts_same from (cuts ++ cut ∷ []) c e ∙ parts_from-again from cuts cut (same ∙ ap (λ p. end_of p cuts) here)
      ∙ sym (parts_same from cuts c e)
  | inr differ ↦ let e : (c == from) ≡ false = ne_eqb c from differ in
      parts_other from (cuts ++ cut ∷ []) c e ∙ ap (λ ps. (from, c) ∷ ps) (parts_from-again c cuts cut same)
      ∙ sym (parts_other from cuts c e)
]

module _ (b : ℕ → Bool) (len step : ℕ) where
  -- the first n multiples of the step, each moved forward
  abbrev pub moved : ℕ → List ℕ
  moved n = map (λ t. boundary_from b len (t * step)) (range_with_len 1 n)

  moved-next : (n : ℕ) → moved (n + 1) ≡ moved n ++ boundary_from b len ((n + 1) * step) ∷ []
  moved-next n = map-range_with_len_more (λ t. boundary_from b len (t * step)) 1 n (n + 1) (omega arith)

  pub end_of-moved : (n : ℕ) → end_of 0 (moved (n + 1)) ≡ boundary_from b len ((n + 1) * step)
  end_of-moved n = ap (end_of 0) (moved-next n) ∙ end_of-push 0 (moved n) (boundary_from b len ((n + 1) * step))

  -- a multiple of the step lies in the input
  pub inside : (n : ℕ) → n < (len - 1) / step → (n + 1) * step ≤ len
  inside n below =
      let most : (len - 1) / step * step ≤ len - 1 = div-mul-le_self (len - 1) step in
      let few : (n + 1) * step ≤ (len - 1) / step * step = mul-le-mul_right step (omega arith) in
      omega (arith, most, few)

  module _ (n : ℕ) (items : List Stretch) (last : ℕ) (are : items ≡ parts_from 0 (moved n)) (is : last ≡ end_of 0 (moved n)) where
    -- the next multiple lies behind the last cut, and makes a part
    pub grown : last < (n + 1) * step → items ++ (last, boundary_from b len ((n + 1) * step)) ∷ [] ≡ parts_from 0 (moved (n + 1))
    grown less =
        ap₂ (λ (ps : List Stretch) (p : ℕ). ps ++ (p, boundary_from b len ((n + 1) * step)) ∷ []) are is
        ∙ sym (parts_from-push 0 (moved n) (boundary_from b len ((n + 1) * step)) (omega (arith, is, less)))
        ∙ ap (parts_from 0) (sym (moved-next n))

    same_end : 1 ≤ step → (n + 1) * step ≤ len → (n + 1) * step ≤ last → last ≡ boundary_from b len ((n + 1) * step)
    same_end some within upto = elim (cases_lt 0 n) [
      | inl more ↦
          let before : n * step ≤ (n + 1) * step = mul-le-mul_right step (omega arith) in
          let back : (n - 1) + 1 ≡ n = omega arith in
          let here : last ≡ boundary_from b len (n * step) =
          is ∙ subst (λ k. end_of 0 (moved k) ≡ boundary_from b len (k * step)) back (end_of-moved (n - 1)) in
          here ∙ sym
          (boundary_from_same b len (n * step) ((n + 1) * step) (omega (arith, before, within)) before (omega (arith, here, upto)))
      | inr none ↦
          let zero : last ≡ 0 = is ∙ ap (λ k. end_of 0 (moved k)) (let e : n ≡ 0 = omega arith in e) in
          let one : 1 * step ≤ (n + 1) * step = mul-le-mul_right step (omega arith) in
          absurd (omega (arith, some, zero, one, upto))
    ]

    -- the next multiple goes where the last cut stands
    pub stayed : 1 ≤ step → (n + 1) * step ≤ len → (n + 1) * step ≤ last
        → (items ≡ parts_from 0 (moved (n + 1))) × (last ≡ end_of 0 (moved (n + 1)))
    stayed some within upto =
        let same : last ≡ boundary_from b len ((n + 1) * step) = same_end some within upto in (
          are ∙ sym (parts_from-again 0 (moved n) (boundary_from b len ((n + 1) * step)) (sym same ∙ is))
              ∙ ap (parts_from 0) (sym (moved-next n)),
          same ∙ sym (end_of-moved n),
        )

    -- the part up to the end, where there is one
    pub ended : last < len → items ++ (last, len) ∷ [] ≡ parts_from 0 (moved n ++ len ∷ [])
    ended less =
        ap₂ (λ (ps : List Stretch) (p : ℕ). ps ++ (p, len) ∷ []) are is ∙ sym (parts_from-push 0 (moved n) len (omega (arith, is, less)))

    pub ended_there : len ≤ last → last ≤ len → items ≡ parts_from 0 (moved n ++ len ∷ [])
    ended_there ge le = are ∙ sym (parts_from-again 0 (moved n) len (let e : len ≡ last = omega arith in e ∙ is))

pub longer : {X : Type 0} (items more : List X) (x : X) (n : ℕ) → more ≡ items ++ x ∷ [] → length items ≤ n → length more ≤ n + 1
longer items more x n e le = let size : length more ≡ length items + 1 = ap length e ∙ length-append items (x ∷ []) in
    omega (arith, size, le)

-- no more than 1048576 parts
pub step_enough : (size chunk : ℕ) → size ≤ step_of chunk size * most_tasks
step_enough size chunk = omega arith

pub few_cuts : (len step : ℕ) → 1 ≤ step → len ≤ step * most_tasks → (len - 1) / step < most_tasks
few_cuts len step some enough = elim (cases_lt ((len - 1) / step) most_tasks) [
  | inl few ↦ few
  | inr more ↦
      let back : (len - 1) / step * step ≤ len - 1 = div-mul-le_self (len - 1) step in
      let big : most_tasks * step ≤ (len - 1) / step * step = mul-le-mul_right step more in
      absurd (omega (arith, back, big, some, enough))
]
