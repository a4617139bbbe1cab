-- What private contracts cite: room that is taken, what rows in it show, what scalars were found to be, and what came of
-- printing.
pub mod Printing
pub mod Room
pub mod Showing
pub mod Sorts
