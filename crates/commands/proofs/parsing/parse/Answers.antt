-- The line is short enough and no comment; its first word is its name, by the law of the walk.
use Rattle.std.proofs.Common.{◌≡◌, ℕ, List, sym, ap, ◌∙◌, length, le-ltb}
use Rattle.std.specs.Prelude.{false, ◌≤◌}
use Rattle.words.specs.Words.{words_of}
use Rattle.words.specs.Walk.{a_word, no_word}
use Rattle.commands.specs.Commands.{is_comment, by_words, command_of}
use Rattle.commands.proofs.parsing.parse.Goals as goal

looked_into : (line : List ℕ) → length line ≤ 65536 → is_comment line ≡ false → by_words (words_of line) ≡ command_of line
looked_into line short plain = rw (le-ltb 65536 (length line) short, plain)

pub returns-in-Some : goal.returns-in-Some
returns-in-Some c =
    let first = rw (← c.part.ensures) at (a_word c.args.line.now 0 c.in-Some.word (sym c.in-Some.ensures)).first in
    c.named.ensures ∙ ap by_words (sym first) ∙ looked_into c.args.line.now c.if-line-gt-LONGEST.false (sym c.if-is_comment.ensures)

pub returns-in-None : goal.returns-in-None
returns-in-None c =
    let none = no_word c.args.line.now 0 (sym c.in-None.ensures) in
    ap by_words (sym none) ∙ looked_into c.args.line.now c.if-line-gt-LONGEST.false (sym c.if-is_comment.ensures)
