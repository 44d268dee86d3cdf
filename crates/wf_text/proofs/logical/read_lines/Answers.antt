use Rattle.wf_text.proofs.LogicalLines.{lines_of-faulty, lines_of-whole}
use Rattle.wf_text.proofs.logical.read_lines.Goals as goal

pub returns-in-None : goal.returns-in-None
returns-in-None c =
    lines_of-whole c.args.text.now c.in_ok-read.read.lines.items c.in_ok-read.read.fault c.in_ok-read.ensures.lines c.in_ok-read.ensures.fault c.in-None.is

pub returns-in-Some : goal.returns-in-Some
returns-in-Some c =
    rw c.from.ensures (lines_of-faulty c.args.text.now c.in_ok-read.read.fault c.in-Some.fault c.in_ok-read.ensures.fault c.in-Some.is)
