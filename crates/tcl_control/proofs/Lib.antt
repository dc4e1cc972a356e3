pub mod ArmLemmas
pub mod AssignLemmas
pub mod CallLemmas
pub mod ExpressionLemmas
