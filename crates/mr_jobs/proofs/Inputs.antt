-- What a job gives where its inputs are read, and where they are refused.
use Rattle.std.proofs.Common.{◌≡◌, ℕ, Bool, true, false, List, Option, Some, None, Ok, Err, codes, refl, sym, ap, subst}
use Rattle.std.specs.Option.{option_map_or}
use Rattle.std.specs.declared.result.Result.{Result}
use Rattle.mr_base.specs.declared.Stop.{Stop}
use Rattle.mr_base.specs.declared.Stop.TheVariants as stop
use Rattle.mr_base.specs.declared.status.Status.TheVariants as status
use Rattle.mr_grid.specs.Pixels.{bitmap_of}
use Rattle.mr_grid.specs.declared.bitmap.Bitmap.{Bitmap}
use Rattle.mr_items.specs.Bitmap.{bitmap_fault_of, place_of, pixels_in_row, pixel_rows, stride_of}
use Rattle.mr_items.specs.FaultLines.{bitmap_line, input_line}
use Rattle.mr_items.specs.declared.BitmapFault.{BitmapFault}
use Rattle.mr_jobfile.specs.Values.{SeenJob}
use Rattle.mr_jobs.specs.Ending.{Ended}
use Rattle.mr_jobs.specs.Meaning.{Meaning, passed_on, pictured, refusal, shaped}
use Rattle.mr_jobs.specs.Meets.{IsOfInputs, MeetsSeen}
use Rattle.mr_jobs.specs.Outputs.{IsOutputOf}
use Rattle.mr_jobs.specs.declared.output.Output.{Output}
use Rattle.mr_jobs.specs.declared.refusal.Refusal.{Refusal}

module _ (bytes : List ℕ) where
  abbrev whole : Bitmap
  whole = record { place = place_of bytes; width = pixels_in_row bytes; rows = pixel_rows bytes; stride = stride_of bytes }

  -- it has the rows of pixels that the text says
  pub rows_of_bitmap : (b : Bitmap) → Ok b ≡ bitmap_of bytes → b.rows ≡ pixel_rows bytes
  rows_of_bitmap b e = by (bitmap_fault_of bytes) e
    where
      by : (fault : Option BitmapFault) → Ok b ≡ option_map_or Err fault (Ok whole) → b.rows ≡ pixel_rows bytes
      by None k = let same : b ≡ whole = cc in ap (λ x. x.rows) same
      by (Some f) k = absurd (cc)

  no_fault : (b : Bitmap) → Ok b ≡ bitmap_of bytes → None ≡ bitmap_fault_of bytes
  no_fault b e = by (bitmap_fault_of bytes) e
    where
      by : (fault : Option BitmapFault) → Ok b ≡ option_map_or Err fault (Ok whole) → None ≡ fault
      by None k = refl
      by (Some f) k = absurd (cc)

  that_fault : (f : BitmapFault) → Err f ≡ bitmap_of bytes → Some f ≡ bitmap_fault_of bytes
  that_fault f e = by (bitmap_fault_of bytes) e
    where
      by : (fault : Option BitmapFault) → Err f ≡ option_map_or Err fault (Ok whole) → Some f ≡ fault
      by None k = absurd (cc)
      by (Some g) k = cc

module _ (j : SeenJob) (workers : Option ℕ) where
  abbrev Gives : Meaning → Result Output (Stop Refusal) → Type 0
  Gives meaning given = IsOutputOf j meaning workers given

  -- an input that is read, a shape that fits, a bitmap
  pub of_input : {A : Type 0} (read : Ended A) (next : A → Meaning) (a : A) (given : Result Output (Stop Refusal)) → read ≡ Ok a
      → Gives (next a) given → Gives (passed_on read next) given
  of_input read next a given is = subst (λ r. Gives (passed_on r next) given) (sym is)

  pub of_shape : (number : ℕ) (fits : Bool) (meaning : Meaning) (given : Result Output (Stop Refusal)) → fits ≡ true
      → Gives meaning given → Gives (shaped number fits meaning) given
  of_shape number fits meaning given is = subst (λ f. Gives (shaped number f meaning) given) (sym is)

  pub of_bitmap : (bytes : List ℕ) (number : ℕ) (meaning : Meaning) (b : Bitmap) (given : Result Output (Stop Refusal))
      → Ok b ≡ bitmap_of bytes → Gives meaning given → Gives (pictured number (bitmap_fault_of bytes) meaning) given
  of_bitmap bytes number meaning b given is = subst (λ f. Gives (pictured number f meaning) given) (no_fault bytes b is)

  -- a refusal of inputs with this line
  refused_by_line : (line : List ℕ) (r : Refusal) → r.status ≡ status.Input → r.line ≡ line
      → Gives (refusal (record { status = status.Input; line = line })) (Err (stop.Refused r))
  refused_by_line line r is says =
      let same : record { status = status.Input; line = line } ≡ r = λ i. record { status = sym is i; line = sym says i } in
      subst (λ r. Gives (refusal (record { status = status.Input; line = line })) (Err (stop.Refused r))) same
      (record { ending = refl; of_inputs = refl; shares = tt })

  -- an input that is refused, a shape that doesn't fit, a text that is no bitmap
  pub of_stopped : {A B : Type 0} (see : B → A) (read : Ended A) (next : A → Meaning) (why : Stop Refusal)
      → MeetsSeen {B = B} see read (Err why) → IsOfInputs {B = Output} (Err why) → Gives (passed_on read next) (Err why)
  of_stopped see read next (stop.Refused r) is inputs = subst (λ e. Gives (passed_on e next) (Err (stop.Refused r))) (sym is)
      (record { ending = refl; of_inputs = inputs; shares = tt })
  of_stopped see read next stop.Memory is inputs = record { ending = tt; of_inputs = tt; shares = tt }

  pub of_misfit : (number : ℕ) (fits : Bool) (meaning : Meaning) (r : Refusal) → fits ≡ false → r.status ≡ status.Input
      → r.line ≡ input_line number (codes "shape") → Gives (shaped number fits meaning) (Err (stop.Refused r))
  of_misfit number fits meaning r misfit is says = subst (λ f. Gives (shaped number f meaning) (Err (stop.Refused r))) (sym misfit)
      (refused_by_line (input_line number (codes "shape")) r is says)

  pub of_no_bitmap : (bytes : List ℕ) (number : ℕ) (meaning : Meaning) (f : BitmapFault) (r : Refusal) → Err f ≡ bitmap_of bytes
      → r.status ≡ status.Input → r.line ≡ bitmap_line number f
      → Gives (pictured number (bitmap_fault_of bytes) meaning) (Err (stop.Refused r))
  of_no_bitmap bytes number meaning f r unread is says =
      subst (λ fault. Gives (pictured number fault meaning) (Err (stop.Refused r))) (that_fault bytes f unread)
      (refused_by_line (bitmap_line number f) r is says)
