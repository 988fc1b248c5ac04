use Rattle.std.proofs.Common.{◌≡◌, ◌++◌, Some, IfSome, length, ap, ◌∙◌, subst, arith, length-append}
use Rattle.std.specs.Io.Buffered.{reader_remaining, writer_contents}
use Rattle.std.specs.Str.Lines.{lines}
use Rattle.std.specs.Io.BufRead.{take_through, drop_through}
use Rattle.club.specs.Lines.{text_of}
use Rattle.club.proofs.Afternoons.{told_none, told_kept, told_line, told_all, none_left, if_some, some_taken}
use Rattle.club.proofs.TextLines.{lines-few}
use Rattle.club.proofs.afternoon.answer_each.Goals as goal

pub loop-number-init : goal.loop-number-init
loop-number-init g c = told_none _ _ _ _ _ _ _ _

pub returns-then-branch-eq0 : goal.returns-then-branch-eq0
returns-then-branch-eq0 g c =
    let before = told_kept _ _ _ _ (writer_contents g.W.Write.contents c.flush_before_waiting.new.output) c.loop-number.invariant c.flush_before_waiting.ensures.bytes in
    let size = before.count in (
      before.done,
      omega (arith, size),
      told_all _ _ _ _ before,
      if_some (reader_remaining g.R.Read.remaining c.args.input.now) _ (λ xs is few. none_left _ _ _ _ before (c.in_ok-read_until.ensures.end c.if-branch-eq0.true) xs is),
    )

pub loop-number-preserved : goal.loop-number-preserved
loop-number-preserved g c =
    let before = told_kept _ _ _ _ (writer_contents g.W.Write.contents c.flush_before_waiting.new.output) c.loop-number.invariant c.flush_before_waiting.ensures.bytes in
    let came = c.in_ok-read_until.ensures in
    told_line _ _ _ _ c.stripped.result.now c.in_ok-differs.differs c.saturating_add-apart.result before
    (λ ys is.
    let taken : c.read_until.new.buf.items ≡ take_through 10 ys =
    subst (λ o. IfSome o (λ zs. c.read_until.new.buf.items ≡ c.clear.new.self.items ++ take_through 10 zs)) is came.bytes ∙ ap (λ l. l ++ take_through 10 ys) c.clear.ensures.items in
    let behind = subst (λ o. IfSome o (λ zs. reader_remaining g.R.Read.remaining c.read_until.new.self ≡ Some (drop_through 10 zs))) is came.rest in
    let size = ap length c.as_slice.ensures.value in (
      some_taken ys c.read_until.new.buf.items taken (omega (arith, size, c.as_slice.ensures.len, came.ok, c.if-branch-eq0.false)),
      behind,
      c.stripped.ensures ∙ ap text_of (c.as_slice.ensures.value ∙ taken),
    ))
    c.in_ok-differs.ensures
    (λ none more. omega (arith, none, more, c.saturating_add-apart.ensures))

pub returns : goal.returns
returns g c =
    let before = c.loop-number.invariant in
    let size = before.count in (
      before.done,
      omega (arith, size, c.loop-number-test.false),
      told_all _ _ _ _ before,
      if_some (reader_remaining g.R.Read.remaining c.args.input.now) _
          (λ xs is few.
          let left = before.rest xs is in
          let long = ap length left.2 in
          let parts = length-append before.done (lines left.0) in
          let most = lines-few xs in
          absurd (omega (arith, size, long, parts, most, few, c.loop-number-test.false))),
    )
