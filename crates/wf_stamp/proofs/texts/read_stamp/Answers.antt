use Rattle.std.proofs.lemmas.Bool.{false≢true}
use Rattle.wf_stamp.proofs.ReadBack.{parts-of_stamp}
use Rattle.wf_stamp.proofs.texts.read_stamp.Goals as goal

pub returns-in_err-stamp-clause-stamp : goal.returns-in_err-stamp-clause-stamp
returns-in_err-stamp-clause-stamp c =
    rw c.from_residual.ensures (
      (λ e. absurd (false≢true e)),
      (λ stamp. c.in_err-stamp.ensures.exists.1 (rw (c.number.ensures, c.number-2.ensures, c.number-3.ensures, c.number-4.ensures, c.number-5.ensures, c.number-6.ensures) (parts-of_stamp c.args.text.now stamp))),
    )
