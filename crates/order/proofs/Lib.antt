-- What the proofs of several functions use.
mod Kids
mod Steps
mod Places
mod Orders
