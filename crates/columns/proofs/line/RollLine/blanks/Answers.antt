-- The blanks stand where they were filled in. Assumes nothing.
use Rattle.std.proofs.Common.{◌≡◌, ◌∙◌, ◌+◌, ◌-◌, length, take, drop, replicate, ap, refl, sym, arith}
use Rattle.std.proofs.Common.{length-take, length-drop}
use Rattle.std.proofs.lemmas.Slice.{put_mid-paste}
use Rattle.std.proofs.lemmas.List.{length-replicate}
use Rattle.text.specs.Bytes.{byte_blank}
use Rattle.writer.specs.Laws.WroteLaws.{wrote-paste}
use Rattle.columns.specs.Rows.{blanks}
use Rattle.columns.proofs.line.RollLine.blanks.Goals as goal

pub returns : goal.returns
returns c =
    let n = c.args.n in
    let at = c.args.self.at.at in
    let out = c.args.out.now in
    let same : n ≡ at + n - at = omega arith in
    let number : n ≡ length (blanks n) = sym (length-replicate n byte_blank) in
    let room : length (take (at + n - at) (drop at out)) ≡ n =
    omega (arith, c.requires, length-take (at + n - at) (drop at out), length-drop at out) in
    let filled = c.fill.ensures.after (λ y h. h) ∙ ap (λ k. replicate k byte_blank) room in (
      rw (put_mid-paste at (at + n - at) out c.fill.new.self (blanks n) n filled same number)
          (wrote-paste out at (blanks n) n number c.requires),
      refl,
    )
