mod Operations
mod Objects
mod Order
mod Tokens
mod Found
mod Sent
mod Interfaces
mod Sending
