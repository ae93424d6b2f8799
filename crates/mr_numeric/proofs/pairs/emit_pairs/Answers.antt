use Rattle.std.proofs.Common.{◌≡◌, ◌≤◌, ◌-◌, [], ◌∷◌, ◌++◌, nat_abs, w64, ℕ, ℤ, pos, List, length, get_or, take, subst, ap, arith, rules}
use Rattle.std.proofs.Common.{◌∙◌}
use Rattle.std.specs.Prelude.{flat_map}
use Rattle.std.specs.List.{range_with_len}
use Rattle.std.proofs.lemmas.Int.{to_z-of_z, fits_signed_from_abs}
use Rattle.std.proofs.lemmas.Result.{err_from_is_err_and}
use Rattle.mr_defs.specs.Emission.{Emission, Pair}
use Rattle.mr_defs.specs.Folded.{limit}
use Rattle.mr_split.proofs.Numbered.{flat_map-numbered}
use Rattle.mr_numeric.specs.Pairs.{pair_of}
use Rattle.mr_numeric.proofs.Emitted.{emitted, one_more, front_before}
use Rattle.mr_numeric.proofs.pairs.emit_pairs.Goals as goal

-- what the pair at a place emits, and what all pairs do
abbrev at_place : List (ℕ × ℤ) → ℕ → List (Emission ℕ ℤ)
at_place pairs i = pair_of (get_or pairs i (0, pos 0))

all_pairs : (pairs : List (ℕ × ℤ)) → emitted (at_place pairs) 0 (length pairs) ≡ flat_map pair_of pairs
all_pairs pairs = let all : length pairs - 0 ≡ length pairs = omega arith in
    ap (λ n. flat_map (at_place pairs) (range_with_len 0 n)) all ∙ flat_map-numbered pair_of pairs (0, pos 0)

pub returns-in_err-emit-clause-err : goal.returns-in_err-emit-clause-err
returns-in_err-emit-clause-err g c =
    let pairs = c.args.pairs.now in
    let e = err_from_is_err_and c.from_residual.result c.from_residual.ensures.1 in
    rw e.1 (λ es h. subst (λ l. (n : ℕ) × g.L.Local.stands c.emit.new.self (es ++ take n l)) (all_pairs pairs)
    (front_before (at_place pairs) 0 (g.L.Local.stands c.emit.new.self) es c.loop-i.i (length pairs) (omega arith) c.loop-i-test.true
    ((g.met.L.Local.same_keeps _ _ c.in_err-emit.ensures.err).0 _ (c.loop-i.invariant.stands es h))))

pub loop-i-preserved : goal.loop-i-preserved
loop-i-preserved g c = record {
  stands = λ es h.
      let pairs = c.args.pairs.now in
      let i = c.loop-i.i in
      let pair = get_or pairs i (0, pos 0) in
      let small : nat_abs pair.1 ≤ limit = c.requires.values i (0, pos 0) c.loop-i-test.true in
      one_more (at_place pairs) 0 (g.L.Local.stands c.emit.new.self) es i (omega arith)
      (subst (λ v. g.L.Local.stands c.emit.new.self ((es ++ emitted (at_place pairs) 0 i) ++ Pair pair.0 v ∷ []))
      (to_z-of_z w64 pair.1 (fits_signed_from_abs w64 pair.1 (omega (arith, small))))
      (c.in_ok-emit.ensures.ok (es ++ emitted (at_place pairs) 0 i) (c.loop-i.invariant.stands es h)));
  origin = search rules;
}

pub returns-clause-ok : goal.returns-clause-ok
returns-clause-ok g c = λ es h.
    let pairs = c.args.pairs.now in
    let all : c.loop-i.i ≡ length pairs = omega (arith, c.loop-i.auto.i-end, c.loop-i-test.false) in
    subst (λ l. g.L.Local.stands c.loop-i.out (es ++ l)) (ap (emitted (at_place pairs) 0) all ∙ all_pairs pairs)
    (c.loop-i.invariant.stands es h)
