-- The whole text stands where it was copied to. Assumes nothing.
use Rattle.std.proofs.Common.{◌≡◌, ◌+◌, ◌-◌, length, refl, arith}
use Rattle.std.proofs.lemmas.Slice.{put_mid-paste}
use Rattle.writer.specs.Laws.WroteLaws.{wrote-paste}
use Rattle.writer.proofs.position.Position.text.Goals as goal

pub returns : goal.returns
returns c =
    let text = c.args.text.now in
    let at = c.args.self.at in
    let n : length text ≡ at + length text - at = omega arith in
    rw (put_mid-paste at (at + length text - at) c.args.out.now c.copy_from_slice.new.self text (length text)
    c.copy_from_slice.ensures.after n refl)
    (wrote-paste c.args.out.now at text (length text) refl c.requires)
