-- Commands that are written out.
use Rattle.std.proofs.Common.{refl, true, false, codes, [], ◌∷◌, ◌≡◌, Some, None}
use Rattle.clap.proofs.OnLiterals.{clap_on_literals}
use Rattle.mr_command.specs.declared.command.Mode.TheVariants as mode
use Rattle.mr_command.specs.Simple.{is_accepted, rows}
use Rattle.mr_command.specs.Form.{form}

plain : form (codes "mapred" ∷ codes "W" ∷ codes "in" ∷ []) ≡
    Some (record { workers = 1; mode = mode.Run; report = false; job = codes "W"; inputs = codes "in" ∷ [] })
unfolding clap_on_literals is_accepted rows
plain = refl

options_in_front : form (codes "mapred" ∷ codes "--workers" ∷ codes "32" ∷ codes "--mode=check" ∷ codes "W" ∷ []) ≡
    Some (record { workers = 32; mode = mode.Check; report = false; job = codes "W"; inputs = [] })
unfolding clap_on_literals is_accepted rows
options_in_front = refl

options_behind : form (codes "mapred" ∷ codes "W" ∷ codes "in" ∷ codes "--report" ∷ []) ≡
    Some (record { workers = 1; mode = mode.Run; report = true; job = codes "W"; inputs = codes "in" ∷ [] })
unfolding clap_on_literals is_accepted rows
options_behind = refl

dashes : form (codes "mapred" ∷ codes "W" ∷ codes "-" ∷ codes "--" ∷ codes "--report" ∷ []) ≡
    Some (record { workers = 1; mode = mode.Run; report = false; job = codes "W"; inputs = codes "-" ∷ codes "--report" ∷ [] })
unfolding clap_on_literals is_accepted rows
dashes = refl

empty_name : form (codes "mapred" ∷ codes "" ∷ []) ≡ Some (record { workers = 1; mode = mode.Run; report = false; job = []; inputs = [] })
unfolding clap_on_literals is_accepted rows
empty_name = refl

generator : form (codes "mapred" ∷ codes "--mode" ∷ codes "generate" ∷ codes "W" ∷ codes "18446744073709551615" ∷ codes "1000000" ∷ [])
    ≡ Some (record {
      workers = 1;
      mode = mode.Generate 18446744073709551615 1000000;
      report = false;
      job = codes "W";
      inputs = codes "18446744073709551615" ∷ codes "1000000" ∷ [];
    })
unfolding clap_on_literals is_accepted rows
generator = refl

zero_seed : form (codes "mapred" ∷ codes "--mode" ∷ codes "generate" ∷ codes "W" ∷ codes "00" ∷ codes "1" ∷ []) ≡ None
unfolding clap_on_literals is_accepted rows
zero_seed = refl

no_job : form (codes "mapred" ∷ []) ≡ None
unfolding clap_on_literals is_accepted rows
no_job = refl

no_worker : form (codes "mapred" ∷ codes "--workers" ∷ codes "0" ∷ codes "W" ∷ codes "in" ∷ []) ≡ None
unfolding clap_on_literals is_accepted rows
no_worker = refl

leading_zero : form (codes "mapred" ∷ codes "--workers" ∷ codes "07" ∷ codes "W" ∷ codes "in" ∷ []) ≡ None
unfolding clap_on_literals is_accepted rows
leading_zero = refl

too_many_workers : form (codes "mapred" ∷ codes "--workers" ∷ codes "33" ∷ codes "W" ∷ codes "in" ∷ []) ≡ None
unfolding clap_on_literals is_accepted rows
too_many_workers = refl

empty_workers : form (codes "mapred" ∷ codes "--workers=" ∷ codes "W" ∷ []) ≡ None
unfolding clap_on_literals is_accepted rows
empty_workers = refl

other_mode : form (codes "mapred" ∷ codes "--mode" ∷ codes "fast" ∷ codes "W" ∷ codes "in" ∷ []) ≡ None
unfolding clap_on_literals is_accepted rows
other_mode = refl

input_to_check : form (codes "mapred" ∷ codes "--mode" ∷ codes "check" ∷ codes "W" ∷ codes "in" ∷ []) ≡ None
unfolding clap_on_literals is_accepted rows
input_to_check = refl

help : form (codes "mapred" ∷ codes "--help" ∷ []) ≡ None
unfolding clap_on_literals is_accepted rows
help = refl

help_word : form (codes "mapred" ∷ codes "help" ∷ []) ≡
    Some (record { workers = 1; mode = mode.Run; report = false; job = codes "help"; inputs = [] })
unfolding clap_on_literals is_accepted rows
help_word = refl

option_twice : form (codes "mapred" ∷ codes "--workers=1" ∷ codes "--workers=2" ∷ codes "W" ∷ []) ≡ None
unfolding clap_on_literals is_accepted rows
option_twice = refl

flag_twice : form (codes "mapred" ∷ codes "--report" ∷ codes "--report" ∷ codes "W" ∷ []) ≡ None
unfolding clap_on_literals is_accepted rows
flag_twice = refl

flag_with_value : form (codes "mapred" ∷ codes "--report=true" ∷ codes "W" ∷ []) ≡ None
unfolding clap_on_literals is_accepted rows
flag_with_value = refl

unknown_option : form (codes "mapred" ∷ codes "-5" ∷ codes "W" ∷ []) ≡ None
unfolding clap_on_literals is_accepted rows
unknown_option = refl
