-- What the contracts cite.
pub mod Sample
pub mod SampleFalls
