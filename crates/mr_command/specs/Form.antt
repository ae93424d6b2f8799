-- The form of a command's words.
use Rattle.std.specs.Prelude.{ℕ, ◌≤◌, Bool, false, not, ◌&&◌, ◌||◌, ◌==◌, if◌then◌else◌, List, [], codes, length, Option, Some, None}
use Rattle.std.specs.Prelude.{option_map, option_and_then, slice_index, slice_index_or}
use Rattle.std.specs.Option.{option_map_or}
use Rattle.std.specs.Str.{bytes_eq}
use Rattle.std.specs.Str.Parse.{digits_value}
use Rattle.clap.specs.Words.{Row, first_of, all_of}
use Rattle.mr_items.specs.Number.{is_numeral_up_to}
use Rattle.mr_command.specs.declared.command.Mode.{Mode}
use Rattle.mr_command.specs.declared.command.Mode.TheVariants as mode
use Rattle.mr_command.specs.Simple.{is_accepted, rows}

-- what the words ask for
pub record Form : Type 0 where
  pub workers : ℕ
  pub mode : Mode
  pub report : Bool
  pub job : List ℕ
  pub inputs : List (List ℕ)

-- the most workers of a run, and the largest seed and the most words of the generator
abbrev pub workers_most : ℕ
workers_most = 32

abbrev pub seed_most : ℕ
seed_most = 18446744073709551615

abbrev pub words_most : ℕ
words_most = 1000000

-- the number of a numeral without a sign or a leading zero, where it is at most this
abbrev pub numeral_up_to : ℕ → List ℕ → Option ℕ
numeral_up_to most text =
    if (not (slice_index text 0 == 48) || (length text == 1)) && is_numeral_up_to most text then Some (digits_value 10 text) else None

-- the same of a number that isn't 0
abbrev pub counter_up_to : ℕ → List ℕ → Option ℕ
counter_up_to most text = option_and_then (λ n. if n == 0 then None else Some n) (numeral_up_to most text)

abbrev pub workers_of : Option (List ℕ) → Option ℕ
workers_of None = Some 1
workers_of (Some text) = counter_up_to workers_most text

-- a job is checked without an input
abbrev pub check_of : List (List ℕ) → Option Mode
check_of inputs = if length inputs == 0 then Some mode.Check else None

-- a text is generated of a seed and a count of words
abbrev pub generate_of : List (List ℕ) → Option Mode
generate_of inputs =
    if length inputs == 2
    then option_and_then (λ seed. option_map (λ count. mode.Generate seed count) (counter_up_to words_most (slice_index_or inputs 1 [])))
    (numeral_up_to seed_most (slice_index_or inputs 0 []))
    else None

-- the mode that a value names with these inputs, of which a run has any number, and to run where there is no value
abbrev pub mode_of : List (List ℕ) → Option (List ℕ) → Option Mode
mode_of inputs None = Some mode.Run
mode_of inputs (Some text) =
    if bytes_eq text (codes "run") then Some mode.Run
    else (if bytes_eq text (codes "check") then check_of inputs
    else (if bytes_eq text (codes "generate") then generate_of inputs else None))

-- one or more, and no more than this
abbrev pub IsUpTo : ℕ → ℕ → Type 0
IsUpTo most n = (1 ≤ n) × (n ≤ most)

-- a generator has a word, and no more than it may
abbrev pub IsWithin : Mode → Type 0
IsWithin mode.Run = Unit {0}
IsWithin mode.Check = Unit {0}
IsWithin (mode.Generate seed count) = IsUpTo words_most count

-- the words ask for a report; and the inputs that they name
abbrev pub is_report : List Row → Bool
is_report found = option_map_or (λ text. bytes_eq text (codes "true")) (first_of (codes "report") found) false

abbrev pub inputs_in : List Row → List (List ℕ)
inputs_in found = option_map_or (λ names. names) (all_of (codes "INPUT") found) []

-- the form of what clap reads, none where a value has no form
abbrev pub form_of_rows : List Row → Option Form
form_of_rows found =
    option_and_then (λ workers. option_and_then (λ job. option_map (λ m.
    record { workers = workers; mode = m; report = is_report found; job = job; inputs = inputs_in found })
    (mode_of (inputs_in found) (first_of (codes "mode") found)))
    (first_of (codes "JOB") found))
    (workers_of (first_of (codes "workers") found))

-- none where clap refuses the words or a value has no form
abbrev pub form : List (List ℕ) → Option Form
form words = if is_accepted words then form_of_rows (rows words) else None
