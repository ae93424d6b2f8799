use Rattle.std.proofs.Common.{◌≡◌, refl, true, false, None}
use Rattle.std.specs.Str.{is_utf8}
use Rattle.std.proofs.lemmas.Str.{IsUtf8-from_is_utf8, is_utf8-from_IsUtf8}
use Rattle.std.proofs.lemmas.Bool.{false_from_ne_true}
use Rattle.toml.specs.Parse.{parse_document}
use Rattle.mr_jobfile.specs.JobOf.{document_of}
use Rattle.mr_jobfile.proofs.document.document.Goals as goal

pub returns-in_default-clause-refused : goal.returns-in_default-clause-refused
unfolding document_of
returns-in_default-clause-refused c = λ f e.
    let text : is_utf8 c.args.bytes.now ≡ false = false_from_ne_true _ (λ is. c.in_default.ensures.cases.0 (IsUtf8-from_is_utf8 _ is)) in
    (cc, rw text refl)

pub returns-in-Ok-table_from_str-clause-ok : goal.returns-in-Ok-table_from_str-clause-ok
unfolding document_of
returns-in-Ok-table_from_str-clause-ok c =
    let text : is_utf8 c.args.bytes.now ≡ true = is_utf8-from_IsUtf8 _ c.in-Ok.ensures.cases.1 in
    rw text (rw c.in-Ok.ensures.cases.0 at c.in-Ok-table_from_str.ensures.ok)

pub returns-else-is_memory-clause-refused : goal.returns-else-is_memory-clause-refused
unfolding document_of
returns-else-is_memory-clause-refused c = λ f e.
    let text : is_utf8 c.args.bytes.now ≡ true = is_utf8-from_IsUtf8 _ c.in-Ok.ensures.cases.1 in
    let none : parse_document c.in-Ok.text.now ≡ None = c.in-Err.ensures.refused (λ is. false_is_not_true (c.if-is_memory.ensures.1 is)) in
    (cc, rw text (rw c.in-Ok.ensures.cases.0 at none))
  where
    false_is_not_true : false ≡ true → ⊥
    false_is_not_true e = cc
