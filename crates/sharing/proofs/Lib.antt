-- Lemmas on sharing.
pub mod Laws
