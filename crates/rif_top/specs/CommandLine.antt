-- The command line as `clap` is told of it: two commands without options, and none of the flags and commands that
-- `clap` would add. No public clause cites this module.
use Rattle.std.specs.Prelude.{true, codes}
use Rattle.clap.specs.Words.{App, new_app, with_subcommand}
use Rattle.clap.specs.Simple.{Shape, on_top}

-- what is asked of it: no word is the program's name, a command is needed, and help and the version are no words
abbrev pub strict : Shape → Shape
strict shape = record shape {
  no_binary_name = true;
  disable_help_flag = true;
  disable_version_flag = true;
  disable_help_subcommand = true;
  subcommand_required = true;
}

abbrev pub command_line : App
command_line = with_subcommand
    (with_subcommand (on_top strict (new_app (codes "hauskimu"))) (new_app (codes "check")).top)
    (new_app (codes "run")).top
