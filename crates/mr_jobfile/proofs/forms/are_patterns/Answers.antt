use Rattle.mr_jobfile.specs.Ranges.{is_within, is_pattern}
use Rattle.mr_jobfile.proofs.Texts.{texts_pass}
use Rattle.mr_jobfile.proofs.forms.are_patterns.Goals as goal

pub returns-in-Some : goal.returns-in-Some
returns-in-Some c =
    rw (← c.in-Some.ensures, texts_pass (is_within 1 16) is_pattern c.in-Some.items.now.items, ← c.deref.ensures.value)
    c.has_patterns.ensures
