use Rattle.std.proofs.Common.{sym, ◌∙◌, true≢false}
use Rattle.json_shape.proofs.DocumentLemmas.{json_of_text, json_of_no_text}
use Rattle.json_shape.proofs.document.read_json.Goals as goal

pub returns-in-Ok : goal.returns-in-Ok
returns-in-Ok c = json_of_text c.args.bytes.now _ c.in-Ok.ensures.ok.0 c.in-Ok.ensures.ok.1

pub returns-in-Err-2 : goal.returns-in-Err-2
returns-in-Err-2 c = json_of_no_text c.args.bytes.now (λ text. c.in-Err.ensures.err (λ m. true≢false (sym (c.is_memory.ensures.1 m) ∙ c.if-is_memory.false)) text)
