use Rattle.std.proofs.Common.{◌∙◌}
use Rattle.nf_command.proofs.FourWords.{has_words, no_ok, only_memory}
use Rattle.nf_command.proofs.words.matches_of.Goals as goal

pub returns-in-Ok : goal.returns-in-Ok
returns-in-Ok c = λ a b c' d e flags. has_words _ _ a b c' d c.in_ok-command_line.ensures e flags c.in-Ok.matches c.in-Ok.ensures.matches

pub returns-in-Err : goal.returns-in-Err
returns-in-Err c = no_ok c.unread.result _ _ c.unread.ensures.refused
    (λ refused m a b c' d e flags. absurd (refused (c.kind.ensures ∙ only_memory _ _ a b c' d c.in_ok-command_line.ensures e flags c.in-Err.error c.in-Err.ensures.kinds)))
