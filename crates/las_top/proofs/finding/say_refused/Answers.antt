use Rattle.las_top.proofs.finding.say_refused.Goals as goal

pub returns-in-LogTooLong-clause-told : goal.returns-in-LogTooLong-clause-told
returns-in-LogTooLong-clause-told g c = rw c.in-LogTooLong.is c.say-in-LogTooLong.ensures.told

pub returns-in-LogTooLong-clause-front : goal.returns-in-LogTooLong-clause-front
returns-in-LogTooLong-clause-front g c = rw c.in-LogTooLong.is c.say-in-LogTooLong.ensures.front
