-- The one definition that the other crates' definitions share.
pub mod Every
