-- What an open statement takes: its options, and the act that a word alone is. The beginnings of programs and the reader
-- rest on it.
use Rattle.std.specs.Prelude.{Bool, ◌&&◌, not, List}
use Rattle.std.specs.List.{list_any}
use Rattle.nf_program.specs.declared.program.Statement.{Statement}
use Rattle.nf_program.specs.declared.program.Statement.TheVariants as act
use Rattle.nf_program.specs.declared.words.OptionWord.{OptionWord}
use Rattle.nf_program.specs.declared.settings.Setting.{Setting}
use Rattle.nf_reader.specs.declared.places.Head.{Head}
use Rattle.nf_reader.specs.declared.places.Head.TheVariants as head
use Rattle.nf_reader.specs.declared.places.Plain.{Plain}
use Rattle.nf_reader.specs.declared.places.Plain.TheVariants as plain
use Rattle.nf_program.specs.Settings.{is_session, is_output, is_warm, is_session_setting, is_warm_setting}

-- The option may stand in the statement after these: RESET takes session options, SAVE output options, and PROC all
-- but WARM beside session options.
abbrev pub belongs : Head → List Setting → OptionWord → Bool
belongs head.Proc given o = not (is_warm o && list_any is_session_setting given) && not (is_session o && list_any is_warm_setting given)
belongs head.Reset given o = is_session o
belongs head.Save given o = is_output o

-- a statement that is its word alone
abbrev pub plain_act : Plain → Statement
plain_act plain.Pivot = act.Pivot
plain_act plain.Run = act.Run
plain_act plain.Quit = act.Quit
