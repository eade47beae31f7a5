use Rattle.std.proofs.Common.{◌≡◌, ◌+◌, ◌≤◌, ◌++◌, ◌∙◌, sym, ap, arith, take, drop, length-take, string_bytes}
use Rattle.std.specs.Option.{option_map}
use Rattle.clause_log.specs.LogText.{step_of}
use Rattle.clause_log.specs.Steps.{step_is}
use Rattle.std.proofs.lemmas.List.{length-drop}
use Rattle.clause_log.specs.Pieces.{hand_in, reader_ahead}
use Rattle.clause_log.proofs.FeedLemmas.{width}
use Rattle.clause_log.proofs.PieceLemmas.{hand_later, line_given, line_in, line_is_bad}
use Rattle.clause_log.proofs.step_reader.StepReader.give_line.Goals as goal

pub returns-in-Some-clause-gives : goal.returns-in-Some-clause-gives
returns-in-Some-clause-gives g c = λ files.
    let s = c.args.self.now in
    let inside : s.at + c.args.count ≤ s.filled = omega (arith, c.requires.feed.within, length-drop s.at (take s.filled s.piece.items), length-take s.filled s.piece.items) in
    let says : option_map step_is c.in_ok-step.field-0 ≡ step_of (c.args.torn.items ++ take c.args.count (drop s.at s.piece.items)) = rw (c.deref.ensures.value, width s.at c.args.count) at c.in_ok-step.ensures in
    line_given files _ c.args.torn.items (hand_in s.piece.items s.at s.filled) _ s.taken s.line c.args.count c.in-Some.step c.requires.line c.requires.feed (hand_later s.piece.items s.at s.filled c.args.count)
    (ap (option_map step_is) (sym c.in-Some.is) ∙ says ∙ ap (λ l. step_of (c.args.torn.items ++ l)) (sym (line_in s.piece.items s.at s.filled c.args.count inside)))

pub returns-in-None-clause-gives : goal.returns-in-None-clause-gives
returns-in-None-clause-gives g c = λ files.
    let s = c.args.self.now in
    let inside : s.at + c.args.count ≤ s.filled = omega (arith, c.requires.feed.within, length-drop s.at (take s.filled s.piece.items), length-take s.filled s.piece.items) in
    let says : option_map step_is c.in_ok-step.field-0 ≡ step_of (c.args.torn.items ++ take c.args.count (drop s.at s.piece.items)) = rw (c.deref.ensures.value, width s.at c.args.count) at c.in_ok-step.ensures in
    line_is_bad files _ c.args.torn.items (hand_in s.piece.items s.at s.filled) s.taken s.line c.args.count (reader_ahead (string_bytes s.name) (hand_in s.piece.items s.at s.filled) s.taken s.line files) c.requires.line c.requires.feed
    (ap (option_map step_is) (sym c.in-None.is) ∙ says ∙ ap (λ l. step_of (c.args.torn.items ++ l)) (sym (line_in s.piece.items s.at s.filled c.args.count inside)))
