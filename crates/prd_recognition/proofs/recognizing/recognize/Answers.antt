use Rattle.std.proofs.lemmas.Result.{IfOk-weaker}
use Rattle.prd_recognition.proofs.MachineLemmas.{machine_laws}
use Rattle.prd_recognition.proofs.RefusingLemmas.{leads_to}
use Rattle.prd_recognition.proofs.recognizing.recognize.Goals as goal

pub returns : goal.returns
returns c = IfOk-weaker c.recognize_from.result _ _
    (λ outcome followed. leads_to machine_laws c.args.leaves.now outcome followed) c.recognize_from.ensures
