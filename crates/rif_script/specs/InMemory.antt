-- The sources and sinks in memory: what each call on them answers, and what they are then.
-- Source: the project's own (docs/FORMATS.md, "Sources and sinks").
use Rattle.std.specs.Prelude.{ℕ, ◌+◌, ◌-◌, ◌^◌, ◌==◌, ◌||◌, ◌&&◌, min, Bool, false, nat_lt, List, ◌++◌, length, take}
use Rattle.std.specs.Prelude.{drop, Ok, Err, if◌then◌else◌}
use Rattle.std.specs.List.{list_any}
use Rattle.std.specs.declared.result.Result.{Result}
use Rattle.rif_script.specs.declared.failed.Failed.{Failed}
use Rattle.rif_script.specs.declared.fault_plan.FaultPlan.{FaultPlan}

-- the plan in which the calls of these numbers fail, before the first call
abbrev pub fresh_plan : List ℕ → FaultPlan
fresh_plan fail = record { fail = fail; calls = 0; faults = 0 }

-- whether the number of the next call is in the plan, where the numbers end at 2 ^ 64 - 1
abbrev pub is_next_planned : FaultPlan → Bool
is_next_planned plan = nat_lt plan.calls (2 ^ 64 - 1) && list_any (λ number. number == plan.calls + 1) plan.fail

-- whether the next call fails: it can't be done, or it is planned to
abbrev pub is_failing : FaultPlan → Bool → Bool
is_failing plan is_blocked = is_blocked || is_next_planned plan

-- what counting it answers
abbrev pub call_answer : FaultPlan → Bool → Result Unit Failed
call_answer plan is_blocked = if is_failing plan is_blocked then Err record {} else Ok tt

-- the plan after it
abbrev pub plan_after : FaultPlan → Bool → FaultPlan
plan_after plan is_blocked = record {
  fail = plan.fail;
  calls = min (plan.calls + 1) (2 ^ 64 - 1);
  faults = if is_failing plan is_blocked then plan.faults + 1 else plan.faults;
}

-- a source: what is left, the most bytes that one call gives, and the plan of its faults
pub record MemorySource : Type 0 where
  pub left : List ℕ
  pub piece : ℕ
  pub plan : FaultPlan

-- how many bytes a call gives that doesn't fail, with a buffer of that length
abbrev pub taken_count : MemorySource → ℕ → ℕ
taken_count source room = min (min source.piece room) (length source.left)

-- what a call answers
abbrev pub take_answer : MemorySource → ℕ → Result ℕ Failed
take_answer source room = if is_failing source.plan false then Err record {} else Ok (taken_count source room)

-- the source after it
abbrev pub source_after : MemorySource → ℕ → MemorySource
source_after source room = record {
  left = if is_failing source.plan false then source.left else drop (taken_count source room) source.left;
  piece = source.piece;
  plan = plan_after source.plan false;
}

-- a sink: what was written, the room that is left, the most bytes that one call takes, and the plan of its faults
pub record MemorySink : Type 0 where
  pub written : List ℕ
  pub room : ℕ
  pub piece : ℕ
  pub plan : FaultPlan

-- how many bytes of a piece a call takes that doesn't fail
abbrev pub given_count : MemorySink → List ℕ → ℕ
given_count sink piece = min (min sink.piece (length piece)) sink.room

-- whether there is a byte to give and no room for it
abbrev pub is_full : MemorySink → List ℕ → Bool
is_full sink piece = (sink.room == 0) && nat_lt 0 (length piece)

-- what a call answers
abbrev pub give_answer : MemorySink → List ℕ → Result ℕ Failed
give_answer sink piece =
    if is_failing sink.plan (is_full sink piece) then Err record {} else Ok (given_count sink piece)

-- the sink after it
abbrev pub sink_after : MemorySink → List ℕ → MemorySink
sink_after sink piece =
    let count = if is_failing sink.plan (is_full sink piece) then 0 else given_count sink piece in record {
      written = sink.written ++ take count piece;
      room = sink.room - count;
      piece = sink.piece;
      plan = plan_after sink.plan (is_full sink piece);
    }
