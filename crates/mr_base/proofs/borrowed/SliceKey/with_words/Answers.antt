use Rattle.std.proofs.Common.{◌≡◌, ◌∙◌, ℕ, List, length, drop, min, refl, ap, sym, arith}
use Rattle.mr_base.specs.Hash.{fnv1a_from}
use Rattle.mr_base.specs.Keys.{folded, length-folded, list_code, mixed, AreBytes-folded, AreBytes-from}
use Rattle.mr_base.specs.Leads.{high}
use Rattle.mr_base.proofs.borrowed.SliceKey.with_words.Goals as goal

is_code : (ks : List ℕ) (first second rest n : ℕ) → first ≡ high 8 ks → second ≡ high 8 (drop 8 ks) → n ≡ length ks
    → rest ≡ fnv1a_from n (drop 16 ks) → mixed first second rest ≡ list_code ks
unfolding list_code
is_code ks first second rest n p q e f = rw (p, q, f, e) refl

pub invariant_of-result : goal.invariant_of-result
invariant_of-result c =
    let size = length-folded c.args.fold c.args.bytes.now in
    record {
      words = record {
        are_bytes = AreBytes-folded c.args.fold c.args.bytes.now (AreBytes-from c.args.bytes.now (λ i. omega (arith, c.type_inv.bytes i)));
        is_first = c.requires.first;
        is_second = c.requires.second;
      };
      is_code = c.mixed.ensures
          ∙ is_code (folded c.args.fold c.args.bytes.now) c.args.first c.args.second c.rest_of.result
          (length c.args.bytes.now) c.requires.first c.requires.second (sym size) c.rest_of.ensures;
      is_len = c.min.ensures ∙ ap (λ n. min n 4294967295) (sym size);
    }
