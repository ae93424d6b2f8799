-- How a program ends whose words are texts.
use Rattle.std.specs.Prelude.{◌≡◌, ℕ, List, Option}
use Rattle.mr_base.specs.declared.status.Status.{Status}
use Rattle.mr_base.specs.Codes.{code_of}
use Rattle.mr_top.specs.Stages.{Contents}
use Rattle.mr_top.specs.Means.{Means, Tells}

-- with the code of the status of a run of these words, and what both outputs gained by it
pub record EndsAs (exits : ℕ) (contents : Option Contents) (words : List (List ℕ)) (old new told_old told_new : Option (List ℕ))
    (before now : ℕ) : Type 0 where
  pub status : Status
  pub code : exits ≡ code_of status
  pub means : Means status contents words old new
  pub tells : Tells status contents words told_old told_new before now
