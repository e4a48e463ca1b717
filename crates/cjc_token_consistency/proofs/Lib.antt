mod Listed
mod Reached
mod Maps
mod Called
