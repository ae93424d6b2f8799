-- The faults of a container as what it has noted.
use Rattle.mr_defs.specs.Faulty.{Noted}
use Rattle.mr_base.specs.declared.faults.Faults.{Faults}

abbrev pub noted_of : {K : Type 0} → Faults K → Noted K
noted_of f = record { malformed = f.malformed; outside = f.outside; twice = f.twice; over = f.over }
