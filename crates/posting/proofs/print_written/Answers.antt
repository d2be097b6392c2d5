use Rattle.std.proofs.Common.{sym, arith, length-take-le}
use Rattle.posting.proofs.print_written.Goals as goal

pub unwrap-len-requires : goal.unwrap-len-requires
unwrap-len-requires g c = (c.requires.room _ _ _ _ _ _ _ _ c.write.ensures).0 (omega (arith, c.deref_mut-3.ensures.len, c.in_ok-out.ensures.len))

pub slice_bounds-write_all-end : goal.slice_bounds-write_all-end
slice_bounds-write_all-end g c =
    let within = rw c.unwrap-len.ensures at (c.requires.room _ _ _ _ _ _ _ _ c.write.ensures).1 in
    sym (length-take-le _ c.deref-2.result.now (omega (arith, within, c.deref-2.ensures.len, c.deref_mut-3.ensures.len)))
