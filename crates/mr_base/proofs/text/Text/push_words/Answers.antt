use Rattle.std.proofs.Common.{◌≡◌, ℕ, ◌+◌, List, ◌++◌, length, take, ap, ap₂, ◌∙◌, append_assoc, rules}
use Rattle.std.proofs.Math.Seq.{take-append-add}
use Rattle.mr_base.proofs.text.Text.push_words.Goals as goal

cut : (old front back one both all : List ℕ) (start count : ℕ) → one ≡ old ++ front → both ≡ one ++ back → start ≡ length old
    → all ≡ take (start + count) both → all ≡ old ++ take count (front ++ back)
cut old front back one both all start count p q e r =
    r ∙ rw (q, p, e, append_assoc old front back) (take-append-add old (front ++ back) count)

pub returns-in-Ok-clause-ok : goal.returns-in-Ok-clause-ok
returns-in-Ok-clause-ok c =
    cut c.self.inside.bytes.items c.to_be_bytes.result c.to_be_bytes-2.result _ _ _ c.len-start.result c.args.count
    c.in_ok-extend_from_slice.ensures.items c.in-Ok.ensures.items (search rules) c.truncate.ensures.items
    ∙ ap (λ old. old ++ take c.args.count (c.to_be_bytes.result ++ c.to_be_bytes-2.result)) c.self.view_is
    ∙ ap₂ (λ a b. c.args.self.now ++ take c.args.count (a ++ b)) c.to_be_bytes.ensures c.to_be_bytes-2.ensures
