use Rattle.std.proofs.Common.{◌∙◌, ap, sym, List}
use Rattle.std.specs.Prelude.{◌==◌, find}
use Rattle.wf_model.specs.Entries.{axis_of}
use Rattle.wf_registry_columns.specs.declared.axes.Letter.{Letter}
use Rattle.wf_registry_columns.specs.FoundAxis.{found_axis}
use Rattle.wf_registry_columns.proofs.AxisLemmas.{axis_in}
use Rattle.wf_registry_columns.proofs.axes.Axes.axis_of.Goals as goal

pub returns : goal.returns
returns c =
    c.axis_in.ensures
    ∙ ap (λ (ls : List Letter). found_axis (find (λ (l : Letter). c.args.letter == l.letter) ls)) c.deref.ensures.value
    ∙ sym (axis_in c.self.inside.letters.items c.args.letter)
    ∙ ap (λ es. axis_of es c.args.letter) c.self.view_is
