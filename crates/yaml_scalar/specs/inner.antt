-- What private contracts cite.
pub mod Numbers
