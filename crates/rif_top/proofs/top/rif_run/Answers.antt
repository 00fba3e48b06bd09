use Rattle.std.proofs.Common.{◌∙◌, ap, sym}
use Rattle.rif_top.specs.Commands.{command_of}
use Rattle.rif_top.proofs.CompletenessLemmas.{is_done, is_refused}
use Rattle.rif_top.proofs.top.rif_run.Goals as goal

pub returns-in-Ok-write_text-clause-complete : goal.returns-in-Ok-write_text-clause-complete
returns-in-Ok-write_text-clause-complete over c = λ taken reads writes.
    is_done c.args.words.now.items _ _ _ _ (record {
      command = c.in-Ok-Some.command;
      told = sym (c.in-Ok-Some.ensures.ok ∙ ap command_of c.as_slice.ensures.value) ∙ c.in-Ok-Some.field-0-is;
      input = c.in-Ok.input.items;
      read = c.in-Ok.ensures.read;
      answers = rw c.as_slice-2.ensures.value at c.in-Ok-answer_to.ensures;
    }) taken

pub returns-in-Ok-write_text-clause-refused : goal.returns-in-Ok-write_text-clause-refused
returns-in-Ok-write_text-clause-refused over c = λ refused reads writes.
    is_refused c.args.words.now.items _ _ _ _ (record {
      command = c.in-Ok-Some.command;
      told = sym (c.in-Ok-Some.ensures.ok ∙ ap command_of c.as_slice.ensures.value) ∙ c.in-Ok-Some.field-0-is;
      input = c.in-Ok.input.items;
      read = c.in-Ok.ensures.read;
      answers = rw c.as_slice-2.ensures.value at c.in-Ok-answer_to.ensures;
    }) refused
