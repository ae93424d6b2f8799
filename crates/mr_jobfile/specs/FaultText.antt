-- The line that says why a job file was refused.
use Rattle.std.specs.Prelude.{ℕ, List, ◌++◌, codes}
use Rattle.mr_items.specs.FaultLines.{fault_line, shown_text}
use Rattle.mr_jobfile.specs.declared.fault.JobFault.{JobFault}
use Rattle.mr_jobfile.specs.declared.fault.JobFault.TheVariants as fault
use Rattle.mr_jobfile.specs.Keys.{key_text}

-- what the line says of the fault
abbrev pub fault_words : JobFault → List ℕ
fault_words fault.TooLong = codes "too long"
fault_words fault.NotToml = codes "not toml"
fault_words (fault.Unknown name) = codes "unknown " ++ shown_text name
fault_words (fault.Missing k) = codes "missing " ++ key_text k
fault_words (fault.BadValue k) = codes "bad " ++ key_text k
fault_words fault.Pairing = codes "pairing"

-- the whole line
abbrev pub job_line : JobFault → List ℕ
job_line fault = fault_line (codes "job " ++ fault_words fault)
