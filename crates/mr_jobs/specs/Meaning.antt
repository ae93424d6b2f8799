-- What a job means on its inputs: rounds over items that are cut into tasks, or the refusal of an input.
use Rattle.std.specs.Prelude.{ℕ, ℤ, Bool, true, false, List, codes, decimal, Option, Some, None, Ok, Err, length, flat_map}
use Rattle.std.specs.List.{range_with_len}
use Rattle.std.specs.Ordering.{nat_cmp}
use Rattle.std.specs.declared.cmp.Ordering.{Ordering}
use Rattle.mr_base.specs.declared.status.Status.TheVariants as status
use Rattle.mr_capacity.specs.Folds.{folded}
use Rattle.mr_capacity.specs.declared.kinds.ContainerKind.{ContainerKind}
use Rattle.mr_capacity.specs.declared.kinds.ContainerKind.TheVariants as container
use Rattle.mr_defs.specs.Emission.{Answer, Emission, Row}
use Rattle.mr_defs.specs.Rounds.{Next, only_round, rounds_of, states_of}
use Rattle.mr_defs.specs.Tasks.{Stretch, pieces_of, spans_of}
use Rattle.mr_items.specs.declared.BitmapFault.{BitmapFault}
use Rattle.mr_items.specs.FaultLines.{input_line, bitmap_line, shown_text}
use Rattle.mr_items.specs.Keys.{byte_order, all_inside, below}
use Rattle.mr_items.specs.Lines.{line_places}
use Rattle.mr_items.specs.Report.{Work}
use Rattle.mr_items.specs.Texts.{rows_text}
use Rattle.mr_items.specs.Words.{word_places}
use Rattle.mr_jobfile.specs.Values.{SeenJob}
use Rattle.mr_jobs.specs.Ending.{Ended, Ending, ended_by}
use Rattle.mr_jobs.specs.Shares.{AreLawfulRounds, task_at}
use Rattle.mr_jobs.specs.declared.refusal.Refusal.{Refusal}
use Rattle.mr_split.specs.Pieces.{boundary_of}
use Rattle.mr_split.specs.declared.boundary.Boundary.{Boundary}

-- the number keys that are inside a container of this capacity
abbrev pub inside_of : ContainerKind → ℕ → ℕ → Bool
inside_of container.Hash capacity = all_inside
inside_of container.Array capacity = below capacity
inside_of container.Common capacity = below capacity

-- all workers share one array
abbrev pub is_shared : ContainerKind → Bool
is_shared container.Hash = false
is_shared container.Array = false
is_shared container.Common = true

-- where the items begin whose text is cut so
abbrev pub places_of : Boundary → List ℕ → List ℕ
places_of Boundary.Word bytes = word_places bytes
places_of Boundary.Line bytes = line_places bytes

-- how many rounds there are at most: one, two, or as many as the job file says
pub data Most : Type 0 where
  one : Most
  two : Most
  told : Most

-- rounds over items, which are cut into tasks: the order of the keys and what a line shows of one, which keys are inside, whether one array
-- is shared by all workers, what the values of a key fold to; what an item emits in a state, what the rows of a round lead to, and the
-- state of the first round
pub record JobRounds : Type 1 where
  pub Key : Type 0
  pub Value : Type 0
  pub State : Type 0
  pub order : Key → Key → Ordering
  pub shown : Key → List ℕ
  pub inside : Key → Bool
  pub shared : Bool
  pub fold : List Value → Option Answer
  pub items : List ℕ
  pub tasks : List Stretch
  pub emits : State → ℕ → List (Emission Key Value)
  pub next : State → List (Row Key) → Next State
  pub most : Most
  pub first : State

pub data Meaning : Type 1 where
  rounds : JobRounds → Meaning
  refusal : Refusal → Meaning

-- what comes where an input passes
abbrev pub passed_on : {A : Type 0} → Ended A → (A → Meaning) → Meaning
passed_on (Ok a) next = next a
passed_on (Err r) next = refusal r

-- what comes where the input with this number has the shape that the job wants
abbrev pub shaped : ℕ → Bool → Meaning → Meaning
shaped number true next = next
shaped number false next = refusal (record { status = status.Input; line = input_line number (codes "shape") })

-- what comes where an input is a bitmap
abbrev pub pictured : ℕ → Option BitmapFault → Meaning → Meaning
pictured number None next = next
pictured number (Some f) next = refusal (record { status = status.Input; line = bitmap_line number f })

-- one round, whose rows have this text
abbrev pub once : {K V : Type 0} → (K → K → Ordering) → (K → List ℕ) → (K → Bool) → Bool → (List V → Option Answer)
    → (List (Row K) → List ℕ) → List ℕ → List Stretch → (ℕ → List (Emission K V)) → Meaning
once {K} {V} order shown inside shared fold text items tasks emits = rounds (record {
  Key = K;
  Value = V;
  State = Unit {0};
  order = order;
  shown = shown;
  inside = inside;
  shared = shared;
  fold = fold;
  items = items;
  tasks = tasks;
  emits = λ s. emits;
  next = only_round text;
  most = one;
  first = tt;
})

module _ (j : SeenJob) where
  -- one round over the words or the lines of a text, by byte keys: they stand in hash tables, so every one is inside
  abbrev pub byte_text : (List (Row (List ℕ)) → List ℕ) → Boundary → (List ℕ → ℕ → List (Emission (List ℕ) ℤ)) → List ℕ → Meaning
  byte_text text cut emits input = once byte_order shown_text all_inside false (folded j.combiner j.reducer) text
      (places_of cut input) (pieces_of (boundary_of cut input) j.chunk (length input)) (emits input)

  -- the same by number keys
  abbrev pub number_text : Boundary → (List ℕ → ℕ → List (Emission ℕ ℤ)) → List ℕ → Meaning
  number_text cut emits input = once nat_cmp decimal (inside_of j.container j.capacity) (is_shared j.container)
      (folded j.combiner j.reducer) (rows_text decimal)
      (places_of cut input) (pieces_of (boundary_of cut input) j.chunk (length input)) (emits input)

  -- one round over spans of so many items
  abbrev pub number_spans : (List (Row ℕ) → List ℕ) → ℕ → (ℕ → List (Emission ℕ ℤ)) → Meaning
  number_spans text count emits = once nat_cmp decimal (inside_of j.container j.capacity) (is_shared j.container)
      (folded j.combiner j.reducer) text (range_with_len 0 count) (spans_of j.chunk count) emits

  -- rounds over spans of so many items, in containers of its own that each worker has
  abbrev pub span_rounds : {V S : Type 0} → (List V → Option Answer) → ℕ → (S → ℕ → List (Emission ℕ V))
      → (S → List (Row ℕ) → Next S) → Most → S → Meaning
  span_rounds {V} {S} fold count emits next most first = rounds (record {
    Key = ℕ;
    Value = V;
    State = S;
    order = nat_cmp;
    shown = decimal;
    inside = inside_of j.container j.capacity;
    shared = false;
    fold = fold;
    items = range_with_len 0 count;
    tasks = spans_of j.chunk count;
    emits = emits;
    next = next;
    most = most;
    first = first;
  })

  abbrev pub most_of : Most → ℕ
  most_of one = 1
  most_of two = 2
  most_of told = j.rounds

  -- what all items emit in a state
  abbrev pub all_emitted : (m : JobRounds) → m.State → List (Emission m.Key m.Value)
  all_emitted m s = flat_map (m.emits s) m.items

  -- how a job of this meaning ends: with the text that the last round leads to, with the first fault of the first round that has one, or
  -- with the refusal of an input
  abbrev pub ending_of : Meaning → Ending
  ending_of (rounds m) = ended_by m.shown (rounds_of m.order m.inside m.shared m.fold (all_emitted m) m.next (most_of m.most) m.first)
  ending_of (refusal r) = Err r

  -- this is told of the rounds of a job that ended with its text: what so many workers did in them, or nothing
  abbrev pub IsLawfulFor : Meaning → Option ℕ → List (List Work) → Type 0
  IsLawfulFor (rounds m) workers works = AreLawfulRounds m.order m.inside workers (length m.tasks)
      (λ s. task_at (m.emits s) m.items m.tasks)
      (states_of m.order m.inside m.shared m.fold (all_emitted m) m.next (most_of m.most) m.first) works
  IsLawfulFor (refusal r) workers works = ⊥
