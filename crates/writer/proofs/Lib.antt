-- What the proofs of several functions use.
mod Numbers
mod Listing
mod Data
mod Seal
mod Whole
