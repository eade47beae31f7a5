use Rattle.std.proofs.Common.{[], ◌∷◌, ◌++◌, ap, ◌∙◌}
use Rattle.serde_json.proofs.FreeTexts.{text_of_value}
use Rattle.json_shape.proofs.Printed.{no_float}
use Rattle.lasre_codec.specs.Documents.{IsLasre, lasre_as, lasre_of}
use Rattle.lasre_codec.specs.Texts.{lasre_value}
use Rattle.lasre_codec.proofs.TextLemmas.{lasre_plain, text_is_read_back}
use Rattle.lasre_codec.proofs.write.lasre_text.Goals as goal

kept : (c : goal.In_ok-push-in-Ok) → IsLasre (lasre_as c.args.job.now c.args.diagram.now c.args.sheets.now)
kept c =
    record {
      task = c.size.ensures.kept;
      drawing = c.size-2.ensures.drawn;
      surfaces = c.size-3.ensures.kept;
      drawing_size = c.requires.drawing_size;
      surfaces_size = c.requires.surfaces_size;
      flows = c.requires.flows;
    }

pub returns-in_ok-push-in-Ok-clause-text : goal.returns-in_ok-push-in-Ok-clause-text
returns-in_ok-push-in-Ok-clause-text c =
    let lasre = lasre_as c.args.job.now c.args.diagram.now c.args.sheets.now in
    let sent = c.in-Ok.ensures.events in
    c.in_ok-push-in-Ok.ensures.items ∙ ap (λ text. text ++ 10 ∷ []) (text_of_value (lasre_value lasre) sent.0 c.in-Ok.text.items sent.1 sent.2 (no_float (lasre_value lasre) (lasre_plain lasre (kept c))))

pub returns-in_ok-push-in-Ok-clause-read_back : goal.returns-in_ok-push-in-Ok-clause-read_back
returns-in_ok-push-in-Ok-clause-read_back c =
    ap lasre_of (returns-in_ok-push-in-Ok-clause-text c) ∙ text_is_read_back (lasre_as c.args.job.now c.args.diagram.now c.args.sheets.now) (kept c)
