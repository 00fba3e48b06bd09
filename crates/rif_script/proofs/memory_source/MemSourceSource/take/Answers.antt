-- The bytes that a call puts into the buffer are the first ones that were left.
use Rattle.std.proofs.Common.{◌≡◌, ◌+◌, ◌-◌, ◌<◌, ◌≤◌, min, length, take, drop, ap, sym, ◌∙◌, arith}
use Rattle.rif_script.specs.InMemory.{MemorySource}
use Rattle.rif_script.proofs.TakingLemmas.{bytes_at_front, none_at_end}
use Rattle.rif_script.proofs.memory_source.MemSourceSource.take.Goals as goal

pub returns-clause-bytes : goal.returns-clause-bytes
returns-clause-bytes c =
    let source = c.self.inside in
    let at = source.at in
    let piece = source.piece in
    let bytes = source.bytes.items in
    let buf = c.args.buf.now in
    let count = c.min-count.result in
    let copied = c.copy_from_slice.new.self in
    let some : 0 < piece = c.self.invariant.1 in
    let inside : at ≤ length bytes = omega (arith, source.bytes.ok.0) in
    let count_is : count ≡ min (min piece (length buf)) (length bytes - at) = omega (arith, source.bytes.ok.0) in
    let read = c.deref.ensures.value in
    let copied_is : copied ≡ take (at + count - at) (drop at bytes) = cc (read, c.copy_from_slice.ensures.after) in
    let left_is = ap (λ (value : MemorySource). value.left) (sym c.self.view_is) in (
      left_is ∙ bytes_at_front piece at count bytes buf copied some inside count_is copied_is,
      none_at_end piece at count bytes buf copied some inside count_is copied_is,
    )
