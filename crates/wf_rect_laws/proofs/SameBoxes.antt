-- Boxes of points and boxes of a run have the same points and tiles.
use Rattle.std.proofs.Common.{refl}
use Rattle.wf_model.specs.Patches.{tile_box}
use Rattle.wf_laws.proofs.Bools.{and_left, and_right, and_both}
use Rattle.wf_laws.proofs.Spans.{span-in, span-low, span-high}
use Rattle.wf_rect_laws.specs.Boxes.{box_of, BoxesHoldAlike, MeetingsAreCuts}
use Rattle.wf_rect_laws.specs.Boxes.{TileBoxesAreTiles}

pub hold_alike : BoxesHoldAlike
hold_alike r j i =
    let b = box_of r in (
      λ h. and_both _ _ (span-in b.y j h.in_y.0 h.in_y.1) (span-in b.x i h.in_x.0 h.in_x.1),
      λ t. record {
        in_x = (span-low b.x i (and_right _ _ t), span-high b.x i (and_right _ _ t));
        in_y = (span-low b.y j (and_left _ _ t), span-high b.y j (and_left _ _ t));
      },
    )

pub cut_alike : MeetingsAreCuts
cut_alike width height r = refl

pub tiles_alike : TileBoxesAreTiles
unfolding tile_box
tiles_alike r n t = refl
