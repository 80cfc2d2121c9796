use Rattle.std.proofs.Common.{[], None, refl}
use Rattle.command_words.specs.Words as words
use Rattle.xray_program.specs.Commands.{doing_of}
use Rattle.xray_program.proofs.WorkEndings.{finishes_with}
use Rattle.xray_program.proofs.extract.ExtractWork.finish.Goals as goal

pub returns-clause-finishes : goal.returns-clause-finishes
returns-clause-finishes g c =
    finishes_with (doing_of (words.Extract c.args.self.now.image.now)).leaves c.args.image.now [] _ None _ _ _ _ _ c.deliver.result refl
    c.deliver.ensures.delivers
