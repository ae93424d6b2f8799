use Rattle.std.proofs.Common.{◌≡◌, ◌≤◌, ◌∙◌, ℕ, List, ◌++◌, min, arith}
use Rattle.std.specs.Prelude.{Result, OnOk}
use Rattle.std.proofs.lemmas.Bool.Decides.{nat_tests}
use Rattle.mr_base.proofs.Words.{bytes_of_words}
use Rattle.mr_base.proofs.borrowed.SliceKeyKey.print.Goals as goal

appended : {A E : Type 0} (result : Result A E) (new old bytes key : List ℕ) → bytes ≡ key → OnOk result (new ≡ old ++ bytes)
    → OnOk result (new ≡ old ++ key)
appended result new old bytes key e h = rw (← e) h

whole : (len n : ℕ) → len ≡ min n 4294967295 → len ≤ 16 → len ≡ n
whole len n e h = grind (arith, nat_tests)

pub returns-then-self-le16-clause-ok : goal.returns-then-self-le16-clause-ok
returns-then-self-le16-clause-ok c =
    let kept = c.self.invariant in
    appended _ _ _ _ _ (bytes_of_words _ c.self.inside.first c.self.inside.second c.self.inside.len kept.words
    (whole c.self.inside.len _ kept.is_len c.if-self-le16.true) c.if-self-le16.true ∙ c.self.view_is) c.push_words.ensures.ok
