use Rattle.las_spec.proofs.refusal.SpecRefusedDisplay.fmt.Goals as goal

pub returns-in-Missing-clause-writes : goal.returns-in-Missing-clause-writes
returns-in-Missing-clause-writes g c = rw c.in-Missing.is c.write.ensures.writes

pub returns-in-Shape-clause-writes : goal.returns-in-Shape-clause-writes
returns-in-Shape-clause-writes g c = rw c.in-Shape.is c.write-in-Shape.ensures.writes

pub returns-in-PortWay-clause-writes : goal.returns-in-PortWay-clause-writes
returns-in-PortWay-clause-writes g c = rw c.in-PortWay.is c.write-in-PortWay.ensures.writes

pub returns-in-PortBasis-clause-writes : goal.returns-in-PortBasis-clause-writes
returns-in-PortBasis-clause-writes g c = rw c.in-PortBasis.is c.write-in-PortBasis.ensures.writes

pub returns-in-PortPlace-clause-writes : goal.returns-in-PortPlace-clause-writes
returns-in-PortPlace-clause-writes g c = rw c.in-PortPlace.is c.write-in-PortPlace.ensures.writes

pub returns-in-PortTwice-clause-writes : goal.returns-in-PortTwice-clause-writes
returns-in-PortTwice-clause-writes g c = rw c.in-PortTwice.is c.write-in-PortTwice.ensures.writes

pub returns-in-FlowLength-clause-writes : goal.returns-in-FlowLength-clause-writes
returns-in-FlowLength-clause-writes g c = rw c.in-FlowLength.is c.write-in-FlowLength.ensures.writes

pub returns-in-FlowLetter-clause-writes : goal.returns-in-FlowLetter-clause-writes
returns-in-FlowLetter-clause-writes g c = rw c.in-FlowLetter.is c.write-in-FlowLetter.ensures.writes

pub returns-in-ForbiddenPlace-clause-writes : goal.returns-in-ForbiddenPlace-clause-writes
returns-in-ForbiddenPlace-clause-writes g c = rw c.in-ForbiddenPlace.is c.write-in-ForbiddenPlace.ensures.writes

pub returns-in-BoxSize-clause-writes : goal.returns-in-BoxSize-clause-writes
returns-in-BoxSize-clause-writes g c = rw c.in-BoxSize.is c.write-in-BoxSize.ensures.writes

pub returns-in-BoxPort-clause-writes : goal.returns-in-BoxPort-clause-writes
returns-in-BoxPort-clause-writes g c = rw c.in-BoxPort.is c.write-in-BoxPort.ensures.writes
