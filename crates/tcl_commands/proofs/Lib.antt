-- Lemmas that several proofs share.
pub mod ArrayLemmas
pub mod ChoicesCut
pub mod ConcatLemmas
pub mod DoneLemmas
pub mod EachLemmas
pub mod EditLemmas
pub mod OneIf
pub mod PairsCut
pub mod ShapeExamples
pub mod ShapeLemmas
pub mod SumLemmas
