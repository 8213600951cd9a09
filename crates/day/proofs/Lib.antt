mod Made
mod Parties
mod Wrong
