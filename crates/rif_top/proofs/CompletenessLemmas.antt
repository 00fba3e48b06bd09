-- An input that is a job isn't refused, and one that is refused has no other answer.
use Rattle.std.proofs.Common.{◌≡◌, ◌∙◌, ◌≤◌, ◌<◌, ◌⊎◌, inl, inr, ℕ, List, length, take, drop, Option, Some, IfSome}
use Rattle.std.proofs.Common.{Bool, true, false, nat_le, refl, sym, subst, arith}
use Rattle.std.proofs.lemmas.Bool.Decides.{nat_tests}
use Rattle.std.proofs.lemmas.List.{take_all, length-take-le}
use Rattle.rif_refusals.specs.Limits.{most_input_bytes}
use Rattle.rif_refusals.specs.declared.refusal.Refusal.{Refusal}
use Rattle.rif_script.specs.declared.job.Job.{Job}
use Rattle.rif_script.specs.Jobs.{IsJob, IsRefused}
use Rattle.rif_script.proofs.CallerLemmas.{jobs_have_one_outcome}
use Rattle.rif_top.specs.declared.command.Command.{Command}
use Rattle.rif_top.specs.declared.command.Command.TheVariants.{Check, Run}
use Rattle.rif_top.specs.declared.status.Status.{Status}
use Rattle.rif_top.specs.declared.status.Status.TheVariants.{Done, Refused, Usage, ReadFault, WriteFault, OutOfMemory}
use Rattle.rif_top.specs.Answer.{IsTextFor}
use Rattle.rif_top.specs.Reading.{ReadsFront}
use Rattle.rif_top.specs.Statuses.{IsDoneOrNoMemory, IsRefusedOrNoMemory}
use Rattle.rif_top.specs.Top.{AreRefused, AreTaken, ReadsAnswer, most_bytes_read}

-- what has a text is a job
pub job_made : (command : Command) (input text : List ℕ) → IsTextFor command input text →
    (job : Job) × IsJob input job
job_made Check input text made = (made.1, (made.0, made.2))
job_made Run input text made = (made.0, made.1)

-- the front of an input was read
front_of : (left left' : Option (List ℕ)) (input all : List ℕ) → ReadsFront most_bytes_read left left' input →
    left ≡ Some all → input ≡ take most_bytes_read all
front_of left left' input all read is =
    (subst (λ (o : Option (List ℕ)).
    IfSome o (λ bytes. (input ≡ take most_bytes_read bytes) × (left' ≡ Some (drop most_bytes_read bytes))))
    is read.bytes).0

-- an input within the limit is read whole
whole : (left left' : Option (List ℕ)) (input all : List ℕ) → ReadsFront most_bytes_read left left' input →
    left ≡ Some all → length all ≤ most_input_bytes → input ≡ all
whole left left' input all read is short =
    front_of left left' input all read is ∙ take_all most_bytes_read all (omega (arith, short))

pub is_done : (words : List (List ℕ)) (left left' : Option (List ℕ)) (status : Status) (text : List ℕ) →
    ReadsAnswer words left left' status text → AreTaken words left → IsDoneOrNoMemory status
is_done words left left' Done text read taken = tt
is_done words left left' OutOfMemory text read taken = tt
is_done words left left' Usage text read taken = absurd read.answers
is_done words left left' ReadFault text read taken = absurd read.answers
is_done words left left' WriteFault text read taken = absurd read.answers
is_done words left left' Refused text read taken =
    let all = whole left left' read.input taken.input read.read taken.left_is taken.taken.1.text.short in
    let refused = subst (λ (i : List ℕ). IsRefused i read.answers.0) all read.answers.1 in
    absurd (jobs_have_one_outcome.not_both taken.input taken.job read.answers.0 taken.taken refused)

long_front : (all : List ℕ) → most_input_bytes < length all → most_input_bytes < length (take most_bytes_read all)
long_front all long = omega (arith, length-take-le most_bytes_read all (omega (arith, long)))

-- what refuses an input refuses the front of it that is read
front_refused_by : (input : List ℕ) (refusal : Refusal) (size : (length input ≤ most_input_bytes)
    ⊎ (most_input_bytes < length input)) → IsRefused input refusal → IsRefused (take most_bytes_read input) refusal
front_refused_by input refusal (inl short) refused =
    subst (λ (i : List ℕ). IsRefused i refusal) (sym (take_all most_bytes_read input (omega (arith, short)))) refused
front_refused_by input refusal (inr long) (inl too_long) = inl (too_long.0, long_front input long)
front_refused_by input refusal (inr long) (inr (inl broken)) = absurd (omega (arith, long, broken.2))
front_refused_by input refusal (inr long) (inr (inr other)) = absurd (omega (arith, long, other.0.short))

compare : (a b : ℕ) (r : Bool) → nat_le a b ≡ r → (a ≤ b) ⊎ (b < a)
compare a b true is = inl (grind (arith, nat_tests))
compare a b false is = inr (grind (arith, nat_tests))

size_of : (input : List ℕ) → (length input ≤ most_input_bytes) ⊎ (most_input_bytes < length input)
size_of input = compare (length input) most_input_bytes (nat_le (length input) most_input_bytes) refl

pub is_refused : (words : List (List ℕ)) (left left' : Option (List ℕ)) (status : Status) (text : List ℕ) →
    ReadsAnswer words left left' status text → AreRefused words left → IsRefusedOrNoMemory status
is_refused words left left' Refused text read refused = tt
is_refused words left left' OutOfMemory text read refused = tt
is_refused words left left' Usage text read refused = absurd read.answers
is_refused words left left' ReadFault text read refused = absurd read.answers
is_refused words left left' WriteFault text read refused = absurd read.answers
is_refused words left left' Done text read refused =
    let front = front_of left left' read.input refused.input read.read refused.left_is in
    let bad = subst (λ (i : List ℕ). IsRefused i refused.refusal) (sym front)
    (front_refused_by refused.input refused.refusal (size_of refused.input) refused.refused) in
    let made = job_made read.command read.input text read.answers in
    absurd (jobs_have_one_outcome.not_both read.input made.0 refused.refusal made.1 bad)
