use Rattle.std.proofs.Common.{◌+◌, length, arith}
use Rattle.bus.specs.Request.{word_of}
use Rattle.memories.proofs.Stored.{filled_word, filled_half, filled_byte, inside, moves}
use Rattle.memories.proofs.ram.Ram.write.Goals as goal

pub returns-in-Word-clause-moves : goal.returns-in-Word-clause-moves
returns-in-Word-clause-moves c =
    let a = c.args in
    let bytes = a.self.now.bytes.now in
    let got = simp (c.region.ensures.base, c.region.ensures.bytes) at c.in-Some.ensures in
    let i = inside a.self.now.base (length bytes) (word_of a.address) c.in-Some.at got in
    let start = c.in-Some.at + c.lane.result in
    moves a.self.now.base a.address a.data c.in-Some.at start a.width bytes _ got
    (simp (c.in-Word.is, c.lane.ensures) (omega (arith, i.1)))
    (simp (c.in-Word.is, c.lane.ensures) (omega (arith, i.2)))
    (simp (c.in-Word.is, c.to_le_bytes.ensures) (filled_word start a.data bytes))

pub returns-in-Half-clause-moves : goal.returns-in-Half-clause-moves
returns-in-Half-clause-moves c =
    let a = c.args in
    let bytes = a.self.now.bytes.now in
    let got = simp (c.region.ensures.base, c.region.ensures.bytes) at c.in-Some.ensures in
    let i = inside a.self.now.base (length bytes) (word_of a.address) c.in-Some.at got in
    let start = c.in-Some.at + c.lane.result in
    moves a.self.now.base a.address a.data c.in-Some.at start a.width bytes _ got
    (simp (c.in-Half.is, c.lane.ensures) (omega (arith, i.1)))
    (simp (c.in-Half.is, c.lane.ensures) (omega (arith, i.2)))
    (simp (c.in-Half.is, c.to_le_bytes.ensures) (filled_half start a.data bytes))

pub returns-in-Byte-clause-moves : goal.returns-in-Byte-clause-moves
returns-in-Byte-clause-moves c =
    let a = c.args in
    let bytes = a.self.now.bytes.now in
    let got = simp (c.region.ensures.base, c.region.ensures.bytes) at c.in-Some.ensures in
    let i = inside a.self.now.base (length bytes) (word_of a.address) c.in-Some.at got in
    let start = c.in-Some.at + c.lane.result in
    moves a.self.now.base a.address a.data c.in-Some.at start a.width bytes _ got
    (simp (c.in-Byte.is, c.lane.ensures) (omega (arith, i.1)))
    (simp (c.in-Byte.is, c.lane.ensures) (omega (arith, i.2)))
    (simp (c.in-Byte.is, c.to_le_bytes.ensures) (filled_byte start a.data bytes))
