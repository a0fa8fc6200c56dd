use Rattle.std.proofs.Common.{◌++◌, take, arith}
use Rattle.std.proofs.lemmas.List.{length-append, length-take}
use Rattle.runjob.proofs.Known.{Consumes-more, Consumes-none, first-end, first-full, StopsReading-memory}
use Rattle.runjob.proofs.Known.{TakesJob-first}
use Rattle.runjob.proofs.input.read_job.Goals as goal

pub returns-in-Ok-eq0 : goal.returns-in-Ok-eq0
returns-in-Ok-eq0 g c =
    let read = c.in-Ok-eq0.ensures.bytes in
    let none = c.in-Ok-eq0.field-0-test in
    let job = c.loop-chunk.job.items in
    let same = Consumes-none _ _ _ job c.read_some.new.chunk _ none c.loop-chunk.invariant.0 read.0 in
    let cut = length-take c.min-room.result c.loop-chunk.chunk in
    let long = c.loop-chunk.invariant.2 in
    let room = c.min-room.ensures in
    let end = read.1 none (omega (
      arith,
      c.read_some.auto.chunk,
      cut,
      long,
      room,
      c.len-in-loop-chunk.ensures,
      c.len.ensures,
      c.loop-chunk-test.true,
    )) in
    let first = first-end _ _ job same end
    (omega (arith, c.loop-chunk.invariant.1, c.loop-chunk.job.ok.0, c.enough_bytes-most.ensures.value)) in
    TakesJob-first _ _ _ job c.enough_bytes-most.ensures.value c.enough_bytes-most.ensures.tells same first

pub returns-in_err-extend_from_slice-in-Ok : goal.returns-in_err-extend_from_slice-in-Ok
returns-in_err-extend_from_slice-in-Ok g c =
    let chunk = take c.in-Ok.count c.read_some.new.chunk in
    StopsReading-memory _ _ _ _ c.from_residual.ensures.1 (
      c.loop-chunk.job.items ++ chunk,
      Consumes-more _ _ _ c.loop-chunk.job.items chunk c.loop-chunk.invariant.0 c.in-Ok.ensures.bytes.0,
      omega (
        arith,
        length-append c.loop-chunk.job.items chunk,
        length-take c.in-Ok.count c.read_some.new.chunk,
        c.in-Ok.ensures.bound,
        c.in-Ok.count-test,
      ),
      omega (
        arith,
        length-append c.loop-chunk.job.items chunk,
        c.in-Ok.ensures.bound,
        c.read_some.auto.chunk,
        length-take c.min-room.result c.loop-chunk.chunk,
        c.loop-chunk.invariant.2,
        c.min-room.ensures,
        c.len-in-loop-chunk.ensures,
        c.loop-chunk.invariant.1,
        c.loop-chunk.job.ok.0,
        c.enough_bytes-most.ensures.value,
      ),
    )

pub returns : goal.returns
returns g c =
    let job = c.loop-chunk.job.items in
    let same = c.loop-chunk.invariant.0 in
    let first = first-full _ _ job same (omega (
      arith,
      c.loop-chunk.invariant.1,
      c.loop-chunk.job.ok.0,
      c.enough_bytes-most.ensures.value,
      c.len.ensures,
      c.loop-chunk-test.false,
    )) in
    TakesJob-first _ _ _ job c.enough_bytes-most.ensures.value c.enough_bytes-most.ensures.tells same first
